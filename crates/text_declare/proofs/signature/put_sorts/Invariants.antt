-- `put_sorts` meets its contract: what is left to put from here gives what all give from the start.
use Rattle.std.proofs.Common.{◌≡◌, ◌+◌, ◌-◌, map}
use Rattle.std.proofs.lemmas.List.Edits.{sets}
use Rattle.text_words.specs.Parts.{parts_from}
use Rattle.text_declare.specs.Signatures.{sort_number}
use Rattle.text_declare.proofs.signature.put_sorts.Given as goal

abbrev pub invariant-loop-i : goal.invariant-loop-i
invariant-loop-i l =
    let number = sort_number l.sorts.text.now l.sorts.table.now l.sorts.count in
    sets l.signature_sorts (l.used + (l.i - l.first)) (map number (parts_from l.line.text.now l.line.table.now l.i (l.line.count - l.i)))
    ≡ sets l.initial.signature_sorts l.used (map number (parts_from l.line.text.now l.line.table.now l.first (l.line.count - l.first)))
