-- What follows of a run: one atom or action more, what its answer depends on, what an added one says of the counts.
use Prim.Native.Nat.{ℕ, zero, suc, ◌+◌, ◌-◌, ◌≤◌, ◌<◌}
use native.Mathlib.Omega.{arith}
use Rattle.std.proofs.Math.Numerals.{add-one}
use Rattle.std.proofs.Math.Nat.{sub-zero}
use Rattle.std.specs.Prelude.{◌≡◌, Ok, Bool, true, false, cond, leb}
use Rattle.std.proofs.Math.Path.{refl}
use Rattle.std.proofs.Common.{sym, ◌∙◌}
use mathlib.Core.List.{List, [], ◌∷◌}
use Rattle.definition.specs.declared.Counts.{Counts}
use Rattle.definition.specs.declared.Refusal.{Refusal}
use Rattle.definition.specs.Numbers.{number_of}
use Rattle.definition.proofs.Laws.Numbers.{positive}
use Rattle.definition.specs.Lists.{from}
use Rattle.definition.specs.Problem.{Problem}
use Rattle.definition.specs.Refusal.{first_given}
use Rattle.rule_steps.specs.declared.Lengths.{Lengths}
use Rattle.rule_calls.specs.declared.Added.{Added}
use Rattle.rule_steps.specs.Ask.{Tables, Source, Ask, ask, head_of, place_of}
use Rattle.rule_steps.specs.Given.{State, Verdict, refused, added, of_head, unless_refused, given, counts_after, after, room_for, early_refusal, ask_refusal, stepped, run}
use Rattle.rule_calls.specs.Exit.{answer_of, problem_after}
use Rattle.rule_steps.specs.Step.{Few, state}
use Rattle.rule_steps.specs.Laws.Room.{room_few}
use Rattle.rule_calls.specs.Left.{told, refused_with, Filled, Holds, Going, RunLeft}

-- a call that is refused has a number, and one that is not goes on
pub go_on : (n head place : ℕ) (v : Verdict) → n ≡ 0 → unless_refused n head place v ≡ v
unfolding unless_refused
go_on n head place v e = rw e

pub stop : (n head place : ℕ) (v : Verdict) → (n ≡ 0 → ⊥) → unless_refused n head place v ≡ refused n (of_head n head) (of_head n place)
unfolding unless_refused
stop zero head place v h = absurd (h refl)
stop (suc n) head place v h = refl

-- nothing is ofHead of a refusal by 1, 2 or 10
no_head : (n : ℕ) → of_head n 0 ≡ 0
no_head n = go (leb 20 n)
  where
    go : (b : Bool) → ◌≡◌ {A = ℕ} (cond b 0 0) 0
    go true = refl
    go false = refl

pub stop_headless : (n : ℕ) (v : Verdict) → (n ≡ 0 → ⊥) → unless_refused n 0 0 v ≡ refused n 0 0
stop_headless n v h = stop n 0 0 v h ∙ rw (no_head n)

module _ (T : Tables) (l : Lengths) (c : Source) where
  abbrev pub asking : State → ℕ → Ask
  asking s i = ask T s.counts.terms c i

  abbrev pub refusing : State → ℕ → ℕ
  refusing s i = ask_refusal T l s.counts s.marks (asking s i)

  abbrev pub next : State → ℕ → State
  next s i = stepped T c s i (asking s i)

  -- what is left from i on
  abbrev pub rest : State → ℕ → ℕ → Verdict
  rest s i n = run T l c s (from i (n - i))

  pub rest_all : (s : State) (n : ℕ) → rest s 0 n ≡ run T l c s (from 0 n)
  rest_all s n = rw (sub-zero n)

  pub rest_none : (s : State) (i n : ℕ) → n ≤ i → rest s i n ≡ added s
  unfolding from run
  rest_none s i n h = let k : n - i ≡ 0 = omega arith in rw k

  rest_step : (s : State) (i n : ℕ) → i < n → rest s i n ≡ unless_refused (refusing s i) (head_of c i) (place_of c i) (rest (next s i) (i + 1) n)
  unfolding from run
  rest_step s i n h = let k : n - i ≡ suc (n - (i + 1)) = omega arith in rw (k, add-one i)

  pub rest_more : (s : State) (i n : ℕ) → i < n → refusing s i ≡ 0 → rest (next s i) (i + 1) n ≡ rest s i n
  rest_more s i n h e = sym (rest_step s i n h ∙ go_on (refusing s i) (head_of c i) (place_of c i) (rest (next s i) (i + 1) n) e)

  pub rest_refused : (s : State) (i n k : ℕ) → i < n → k ≡ refusing s i → (k ≡ 0 → ⊥) → rest s i n ≡ refused k (of_head k (head_of c i)) (of_head k (place_of c i))
  rest_refused s i n k h e z = rest_step s i n h ∙ rw (← e) (stop k (head_of c i) (place_of c i) (rest (next s i) (i + 1) n) z)

  -- the answer depends on counts and marks alone, not on the lists
  same_answer : (o : Counts) (n head place : ℕ) (v w : Verdict) → answer_of o v ≡ answer_of o w → answer_of o (unless_refused n head place v) ≡ answer_of o (unless_refused n head place w)
  unfolding unless_refused
  same_answer o zero head place v w e = e
  same_answer o (suc n) head place v w e = refl

  pub run_answer : (o k : Counts) (r s t g r' s' t' g' m : List ℕ) (is : List ℕ) → answer_of o (run T l c (state k r s t g m) is) ≡ answer_of o (run T l c (state k r' s' t' g' m) is)
  unfolding run answer_of after
  run_answer o k r s t g r' s' t' g' m [] = refl
  run_answer o k r s t g r' s' t' g' m (i ∷ is) =
      let a = next (state k r s t g m) i in
      let b = next (state k r' s' t' g' m) i in
      same_answer o (refusing (state k r s t g m) i) (head_of c i) (place_of c i) (run T l c a is) (run T l c b is)
      (run_answer o a.counts a.records a.side a.tops a.range b.records b.side b.tops b.range a.marks is)

-- the loop over a call: its start, a turn, and its two ways out
pub run_start : (T : Tables) (l : Lengths) (c : Source) (start : State) (n : ℕ) → Few start.counts → Going T l c start start 0 n
run_start T l c start n f = record { rest = rest_all T l c start n; few = f }

module _ {T : Tables} {l : Lengths} {c : Source} {start s : State} {i n : ℕ} (g : Going T l c start s i n) where
  pub run_turn : (s' : State) → i < n → 0 ≡ refusing T l c s i → s' ≡ next T l c s i → Few s'.counts → Going T l c start s' (i + 1) n
  run_turn s' h w e f = record { rest = rw e (rest_more T l c s i n h (sym w)) ∙ g.rest; few = f }

  pub run_refused : (o : Counts) (k : Refusal) (records side tops range : List ℕ) (r : Added) → i < n → number_of k ≡ refusing T l c s i
      → r ≡ refused_with (number_of k) (head_of c i) (place_of c i) o → RunLeft o (run T l c start (from 0 n)) records side tops range r
  unfolding answer_of
  run_refused o k records side tops range r h w a =
      rw (sym g.rest ∙ rest_refused T l c s i n (number_of k) h w (λ z. omega (arith, positive k))) (record { answer = a; lists = tt })

  pub run_ended : (o : Counts) → n ≤ i
      → RunLeft o (run T l c start (from 0 n)) s.records s.side s.tops s.range (told o (Ok s.counts))
  unfolding answer_of
  run_ended o h =
      rw (sym g.rest ∙ rest_none T l c s i n h)
      (record { answer = refl; lists = record { records' = refl; side' = refl; tops' = refl; range' = refl } })

-- the number of an added call is 0, that of a refused one is not
abbrev pub Numbered : Verdict → Type 0
Numbered (refused n h p) = n ≡ 0 → ⊥
Numbered (added s) = Unit {0}

pub numbered_unless : (n head place : ℕ) (v : Verdict) → Numbered v → Numbered (unless_refused n head place v)
unfolding unless_refused
numbered_unless zero head place v h = h
numbered_unless (suc n) head place v h = λ z. omega arith

pub numbered : (T : Tables) (l : Lengths) (c : Source) (s : State) (is : List ℕ) → Numbered (run T l c s is)
unfolding run
numbered T l c s [] = tt
numbered T l c s (i ∷ is) = numbered_unless _ _ _ _ (numbered T l c (next T l c s i) is)

-- the lists of a run that is added
pub filled_all : (p : Problem) (o : Counts) (v : Verdict) (records side tops range : List ℕ) → Numbered v → (answer_of o v).number ≡ 0
    → Filled v records side tops range → Holds (problem_after p v) records side tops range
unfolding answer_of problem_after
filled_all p o (refused n h q) records side tops range k e f = absurd (k e)
filled_all p o (added s) records side tops range k e f = f

-- a run that is refused leaves the problem
pub refused_same : (p : Problem) (o : Counts) (v : Verdict) → ((answer_of o v).number ≡ 0 → ⊥) → problem_after p v ≡ p
unfolding answer_of problem_after
refused_same p o (refused n h q) k = refl
refused_same p o (added s) k = absurd (k refl)

-- what is added has room
none_given : (n : ℕ) (b : Bool) → ◌≡◌ {A = ℕ} (first_given n (cond b 0 10)) 0 → b ≡ true
unfolding first_given
none_given zero true e = refl
none_given zero false e = absurd (omega arith)
none_given (suc n) b e = absurd (omega arith)

pub ask_room : (T : Tables) (l : Lengths) (c : Counts) (m : List ℕ) (a : Ask) → ask_refusal T l c m a ≡ 0 → room_for l (counts_after c m (given T a) a.bound a.fresh) ≡ true
unfolding ask_refusal
ask_room T l c m a e = none_given (early_refusal T a) (room_for l (counts_after c m (given T a) a.bound a.fresh)) e

-- the counts of what is added are small, and no term goes
abbrev pub Grown : ℕ → Verdict → Type 0
Grown n (refused m h q) = Unit {0}
Grown n (added s) = Few s.counts × (n ≤ s.counts.terms)

pub grown_unless : (n m head place : ℕ) (v : Verdict) → (m ≡ 0 → Grown n v) → Grown n (unless_refused m head place v)
unfolding unless_refused
grown_unless n zero head place v h = h refl
grown_unless n (suc m) head place v h = tt

pub grown : (T : Tables) (l : Lengths) (c : Source) (n : ℕ) (s : State) (is : List ℕ) → Few s.counts → n ≤ s.counts.terms → Grown n (run T l c s is)
unfolding run after counts_after
grown T l c n s [] f h = (f, h)
grown T l c n s (i ∷ is) f h =
    grown_unless n (refusing T l c s i) (head_of c i) (place_of c i) (run T l c (next T l c s i) is)
    (λ e. grown T l c n (next T l c s i) is (room_few l (next T l c s i).counts (ask_room T l s.counts s.marks (asking T l c s i) e)) (omega arith))
