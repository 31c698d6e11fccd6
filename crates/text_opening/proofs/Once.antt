-- No second outcome: for the same arguments, any two outcomes that meet the contract of `open_line` are equal. An outcome is the
-- result together with what every lent `&mut` list holds at exit.
use Rattle.definition.proofs.Laws.Once.{Once}
use Rattle.text_opening.specs.Laws.{opens_once}
use Rattle.text_opening.proofs as f

pub open_line_once : Once 8 f.open_line.Kinds.ps f.open_line.Kinds.r f.open_line.Reads.Post
open_line_once κs a o o' p q i =
    let e = opens_once p q in
    let t = e.1.1.1.1 i in
    (record { form = e.0 i; count = e.1.0 i; step = e.1.1.0 i }, (_, (_, (_, (_, (e.1.1.1.0 i, (t.sort_names, (t.global_names, (t.head_names, (t.signatures, (t.signature_sorts, (t.globals, _))))))))))))
