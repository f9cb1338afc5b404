use Rattle.std.proofs.Common.{rules, take, Ok, Err, sym}
use Rattle.std.specs.List.Sorted.{IsBinarySearchResult}
use Rattle.std.proofs.lemmas.Fn.{always_returns_same}
use Rattle.reports.specs.Order.{written_cmp}
use Rattle.reports.proofs.Kept.{kept, found, placed}
use Rattle.reports.proofs.uses.Uses.keep.Goals as goal

pub insert-requires-clause-belongs : goal.insert-requires-clause-belongs
insert-requires-clause-belongs c =
    let u = c.args.self.now in
    let h : IsBinarySearchResult (λ y. written_cmp y c.args.line) (take u.count u.lines) (Err c.in-Err.place)
    = rw c.in-Err.is at (c.binary_search_by-search.ensures.position (λ y. written_cmp y c.args.line) (always_returns_same _ _ _ (λ p r q k. search rules))) in
    placed (take u.count u.lines) c.args.line c.in-Err.place (kept u) (record { fits = c.requires.fits; written = c.requires.written }) (rw c.in-Err.is at c.binary_search_by-search.ensures.bound) h

pub returns-in-Ok : goal.returns-in-Ok
returns-in-Ok c =
    let u = c.args.self.now in
    let h : IsBinarySearchResult (λ y. written_cmp y c.args.line) (take u.count u.lines) (Ok c.in-Ok.field-0)
    = rw c.in-Ok.is at (c.binary_search_by-search.ensures.position (λ y. written_cmp y c.args.line) (always_returns_same _ _ _ (λ p r q k. search rules))) in
    sym (found (take u.count u.lines) c.args.line c.in-Ok.field-0 (kept u) (record { fits = c.requires.fits; written = c.requires.written }) (rw c.in-Ok.is at c.binary_search_by-search.ensures.bound) h)
