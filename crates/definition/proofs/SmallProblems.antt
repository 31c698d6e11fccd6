-- The table of small problems: what each lends is what it leaves, as the checker computes it.
use Rattle.std.specs.Prelude.{◌≡◌, refl, map}
use Rattle.definition.specs.Problem.{node, node_of}
use Rattle.definition.specs.Lists.{from, all, count, largest, joined}
use Rattle.definition.specs.Update.{or_changed, and_then, eq_on, assign_on, each, seen, trials, settle, remaining, xor_on, is_sorted, implies_on, step, upd}
use Rattle.definition.specs.Solve.{solve, after_pass, run, implies_among, open_if, first_open, with_open, at_end, outcome_of}
use Rattle.definition.specs.Refusal.{refusal, room_refusal, first_given, records_refusal, counts_fit, cells_fit, record_fits, values_fit, range_fits, trees_fit, children_below, named, named_once, depth_within, depth_fits}
use Rattle.definition.specs.Buffers.{exit, exit_on, entries_cells, sorts_after, entries_of}
use Rattle.definition.specs.Table.{Line, lines, got, problem, flat, leaving}

pub small_problems : map (λ (l : Line). got l.lends) lines ≡ map (λ (l : Line). l.leaves) lines
unfolding
    lines got problem flat leaving exit exit_on entries_cells sorts_after entries_of solve refusal room_refusal first_given records_refusal counts_fit cells_fit record_fits values_fit
    range_fits trees_fit children_below named named_once depth_within depth_fits from all count largest joined node node_of or_changed and_then eq_on
    assign_on each seen trials settle remaining xor_on is_sorted implies_on step upd after_pass run implies_among open_if first_open with_open
    at_end outcome_of
small_problems = refl
