-- No second outcome: for the same arguments, any two outcomes that meet a function's contract are equal. An outcome is the
-- result together with what every lent `&mut` list holds at exit.
use Rattle.definition.proofs.Laws.Once.{Once, one}
use Rattle.text_declare.proofs as f

pub order_of_once : Once 0 f.order_of.Kinds.ps f.order_of.Kinds.r f.order_of.Reads.Post
order_of_once κs a o o' p q i = (one p q i, _)

pub declare_sort_once : Once 2 f.declare_sort.Kinds.ps f.declare_sort.Kinds.r f.declare_sort.Reads.Post
declare_sort_once κs a o o' p q i = (one p.0 q.0 i, (_, (_, (_, (one p.1 q.1 i, _)))))

pub declare_global_once : Once 4 f.declare_global.Kinds.ps f.declare_global.Kinds.r f.declare_global.Reads.Post
declare_global_once κs a o o' p q i =
    (one p.0 q.0 i, (_, (_, (_, (_, (one p.1.0 q.1.0 i, (one p.1.1 q.1.1 i, _)))))))

pub declare_context_once : Once 1 f.declare_context.Kinds.ps f.declare_context.Kinds.r f.declare_context.Reads.Post
declare_context_once κs a o o' p q i = (one p q i, _)

pub declare_signature_once : Once 5 f.signature.declare_signature.Kinds.ps f.signature.declare_signature.Kinds.r f.signature.declare_signature.Reads.Post
declare_signature_once κs a o o' p q i =
    (one p.0 q.0 i, (_, (_, (_, (_, (one p.1.0 q.1.0 i, (one p.1.1.0 q.1.1.0 i, (one p.1.1.1 q.1.1.1 i, _))))))))

pub declare_line_once : Once 7 f.declare_line.Kinds.ps f.declare_line.Kinds.r f.declare_line.Reads.Post
declare_line_once κs a o o' p q i =
    let t = one p.1 q.1 i in
    (one p.0 q.0 i, (_, (_, (_, (t.sort_names, (t.global_names, (t.head_names, (t.signatures, (t.signature_sorts, (t.globals, _))))))))))
