-- One update of each constraint, each written from the function of the module that its comment names.
-- `u` is the update of a child.
use Rattle.std.specs.Prelude.{ℕ, zero, suc, Bool, true, false, ◌||◌, cond, List, [], ◌∷◌, ◌++◌, eqb, length}
use Rattle.definition.specs.Sizes.{max_depth}
use Rattle.definition.specs.Lists.{all}
use Rattle.definition.specs.Problem.{Problem, Node, eq, assign, and, xor, impossible, implies, node, place_of}
use Rattle.definition.specs.Frame.{Frame, sort_of, state_of, put_sort, put_state}

-- the numbers of the four errors
abbrev pub inconsistent_constraint : ℕ
inconsistent_constraint = 30

abbrev pub unconstrained_var : ℕ
unconstrained_var = 31

abbrev pub no_constraint_satisfied : ℕ
no_constraint_satisfied = 32

abbrev pub impossible_case_identified : ℕ
impossible_case_identified = 33

-- One entry of an error: its number, the record that failed, that record's place, and up to three values.
pub record Entry : Type 0 where
  pub number : ℕ
  pub source : ℕ
  pub place : ℕ
  pub first : ℕ
  pub second : ℕ
  pub third : ℕ

abbrev pub entry : ℕ → ℕ → ℕ → ℕ → ℕ → ℕ → Entry
entry number source place first second third =
    record { number = number; source = source; place = place; first = first; second = second; third = third }

-- a term with two sorts: the term, the sort expected, the actual sort
abbrev pub mismatch : Problem → ℕ → ℕ → ℕ → ℕ → Entry
mismatch p r x expected actual = entry inconsistent_constraint r (place_of p r) x expected actual

-- an Xor without a child that fits: how many children it still had. The entries of their errors follow
abbrev pub none_fits : Problem → ℕ → ℕ → Entry
none_fits p r n = entry no_constraint_satisfied r (place_of p r) n 0 0

-- an arity mismatch: the head, the count expected
abbrev pub arity : Problem → ℕ → ℕ → ℕ → Entry
arity p r h expected = entry impossible_case_identified r (place_of p r) h expected 0

-- An update's answer: changed or not, and the frame; or the error in preorder, an entry and those below it.
pub data Out : Type 0 where
  ok : Bool → Frame → Out
  err : Entry → List Entry → Out

-- changed as well, if b
unfoldable pub or_changed : Bool → Out → Out
or_changed b (ok c g) = ok (b || c) g
or_changed b (err e es) = err e es

-- one after the other: changed if either was, and the first error ends it
unfoldable pub and_then : Out → (Frame → Out) → Out
and_then (ok b g) k = or_changed b (k g)
and_then (err e es) k = err e es

-- Eq::update, on the sorts that x and y have
unfoldable pub eq_on : Problem → ℕ → ℕ → ℕ → Frame → ℕ → ℕ → Out
eq_on p r x y f (suc s) zero = ok true (put_sort f y (suc s))
eq_on p r x y f zero (suc s) = ok true (put_sort f x (suc s))
eq_on p r x y f (suc s) (suc t) = cond (eqb s t) (ok false f) (err (mismatch p r x s t) [])
eq_on p r x y f zero zero = ok false f

-- Assign::update, on the sort that x has
unfoldable pub assign_on : Problem → ℕ → ℕ → ℕ → Frame → ℕ → Out
assign_on p r x s f zero = ok true (put_sort f x (suc s))
assign_on p r x s f (suc t) = cond (eqb t s) (ok false f) (err (mismatch p r x s t) [])

-- And::update, and one pass of Problem::solve: the children in order, each once. That And restores the assignment
-- where a child fails can't be seen: an error has no frame.
unfoldable pub each : (ℕ → Frame → Out) → List ℕ → Frame → Out
each u [] f = ok false f
each u (c ∷ cs) f = and_then (u c f) (each u cs)

-- what Xor::update has found so far: no success and the errors; one success, its child, answer and frame; more
pub data Found : Type 0 where
  nothing : List Entry → Found
  single : ℕ → Bool → Frame → Found
  several : Found

-- one more child has answered. The loop of Xor::update ends at the second success
unfoldable pub seen : Found → ℕ → Out → Found
seen (nothing es) c (ok b g) = single c b g
seen (nothing es) c (err e es') = nothing (es ++ (e ∷ es'))
seen (single d b g) c (ok b' g') = several
seen (single d b g) c (err e es) = single d b g
seen several c o = several

-- the loop of Xor::update: each child from the frame f at entry
unfoldable pub trials : (ℕ → Frame → Out) → Frame → Found → List ℕ → Found
trials u f found [] = found
trials u f found (c ∷ cs) = trials u f (seen found c (u c f)) cs

-- the end of Xor::update: one success stands and the other children drop out; more leave all as it was; none fails
unfoldable pub settle : Problem → ℕ → ℕ → Frame → Found → Out
settle p r n f (nothing es) = err (none_fits p r n) es
settle p r n f (single c b g) = ok b (put_state g r (suc c))
settle p r n f several = ok false f

-- the children that an Xor still has
unfoldable pub remaining : ℕ → List ℕ → List ℕ
remaining zero cs = cs
remaining (suc c) cs = c ∷ []

-- Xor::update
unfoldable pub xor_on : (ℕ → Frame → Out) → Problem → ℕ → List ℕ → Frame → Out
xor_on u p r cs f = settle p r (length cs) f (trials u f (nothing []) cs)

-- the sort list's cell is not 0
unfoldable pub is_sorted : ℕ → Bool
is_sorted zero = false
is_sorted (suc s) = true

-- every watched term has a sort
abbrev pub all_sorted : Frame → List ℕ → Bool
all_sorted f ws = all (λ w. is_sorted (sort_of f w)) ws

-- Implies::update, on the mark that it has fired
unfoldable pub implies_on : (ℕ → Frame → Out) → ℕ → List ℕ → ℕ → Frame → ℕ → Out
implies_on u r ws c f zero = cond (all_sorted f ws) (or_changed true (u c (put_state f r 1))) (ok false f)
implies_on u r ws c f (suc k) = u c f

-- `update` of the trait Constraint, on the kind of the record
unfoldable pub step : (ℕ → Frame → Out) → Problem → ℕ → Node → Frame → Out
step u p r (eq x y) f = eq_on p r x y f (sort_of f x) (sort_of f y)
step u p r (assign x s) f = assign_on p r x s f (sort_of f x)
step u p r (and cs) f = each u cs f
step u p r (xor cs) f = xor_on u p r (remaining (state_of f r) cs) f
step u p r (impossible h e) f = err (arity p r h e) []
step u p r (implies ws c) f = implies_on u r ws c f (state_of f r)

-- the update of a record, at most d levels deep. Deeper ones are refused before
unfoldable pub upd : Problem → ℕ → ℕ → Frame → Out
upd p zero r f = err (arity p r 0 0) []
upd p (suc d) r f = step (upd p d) p r (node p r) f

abbrev pub update : Problem → ℕ → Frame → Out
update p = upd p max_depth
