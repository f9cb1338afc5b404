use Rattle.named_files.proofs.Lending.{table_pushed}
use Rattle.named_files.proofs.lent.push_table.Goals as goal

pub returns : goal.returns
returns c =
    table_pushed c.args.numbered.now _ _ _ _ c.in_ok-extend_from_slice.ensures.items c.in_ok-extend_from_slice-2.ensures.items
    c.deref.ensures.value
