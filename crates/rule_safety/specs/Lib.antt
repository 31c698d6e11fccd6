-- What the generators add is never refused. Read Safe and then Promise in proofs/; the arguments stand in its Laws.
pub mod Safe
