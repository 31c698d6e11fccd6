-- Which terms of a body are grounded, apart from solving: the least set that the four ways give.
use Rattle.std.specs.Prelude.{ℕ, ◌<◌, ◌≤◌, ◌≡◌, true, false, get_or}
use Rattle.definition.specs.declared.Outcome.{Outcome}
use Rattle.definition.specs.Lists.{Among, last_of, without_last}
use Rattle.grounded_body.specs.Body.{Body, kind_at, arguments_at, is_variable}

pub data Grounded (b : Body) : ℕ → Type 0 where
  -- an argument of a function atom
  argument : {a t : ℕ} → a < b.atom_count → kind_at b a ≡ 0 → Among t (arguments_at b a) → Grounded b t
  -- a literal or a global of a primitive or an equality atom
  constant : {a t : ℕ} → a < b.atom_count → 1 ≤ kind_at b a → Among t (arguments_at b a) → is_variable b.terms t ≡ false → Grounded b t
  -- the output of a primitive whose inputs are all grounded
  result : {a : ℕ} → a < b.atom_count → kind_at b a ≡ 1 → ((w : ℕ) → Among w (without_last (arguments_at b a)) → Grounded b w)
      → Grounded b (last_of (arguments_at b a))
  -- a side of an equality whose other side is grounded
  left : {a : ℕ} → a < b.atom_count → 2 ≤ kind_at b a → Grounded b (get_or (arguments_at b a) 1 0) → Grounded b (get_or (arguments_at b a) 0 0)
  right : {a : ℕ} → a < b.atom_count → 2 ≤ kind_at b a → Grounded b (get_or (arguments_at b a) 0 0) → Grounded b (get_or (arguments_at b a) 1 0)

-- a variable of the body: a variable that an atom has among its arguments
pub record BodyVariable (b : Body) (t : ℕ) : Type 0 where
  pub atom : ℕ
  pub within : atom < b.atom_count
  pub among : Among t (arguments_at b atom)
  pub variable : is_variable b.terms t ≡ true

-- What the check answers past its refusals: 0, and every variable of the body is grounded; or 40, with the rule's place
-- and a variable of the body that is not
pub data Verdict (b : Body) (o : Outcome) : Type 0 where
  all_grounded : o.number ≡ 0 → ((t : ℕ) → BodyVariable b t → Grounded b t) → Verdict b o
  one_is_not : o.number ≡ 40 → o.place ≡ b.place → BodyVariable b o.term → (Grounded b o.term → ⊥) → Verdict b o
