-- Which refusals a text can show. Read Told and then Promise in proofs/; the arguments stand in its Laws.
pub mod Told
