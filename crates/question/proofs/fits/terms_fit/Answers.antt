use Rattle.std.proofs.Common.{rules, tests, ◌∙◌}
use Rattle.std.proofs.lemmas.Iterator.{YieldsList-from_slice}
use Rattle.std.proofs.lemmas.Iterator.Search.{all_from_yields_List}
use Rattle.question.specs.Layout.{pair_fits}
use Rattle.question.proofs.Chunks.{all_terms-cut}
use Rattle.question.proofs.fits.terms_fit.Goals as goal

pub returns : goal.returns
returns c =
    let ps = c.as_chunks.result.0.now in
    all_from_yields_List (pair_fits 16) _ _ c.all.result c.all.ensures.ran (YieldsList-from_slice ps cc) (λ x b q k. search (rules, tests))
    ∙ all_terms-cut 16 c.args.n c.args.numbers.now ps c.requires c.as_chunks.ensures.front
