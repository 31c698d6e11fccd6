-- Laws of the small functions on lists: `from`, `all`, `count`, `largest`, `joined`.
use Rattle.std.specs.Prelude.{ℕ, zero, suc, ◌+◌, ◌≤◌, ◌<◌, ◌≡◌, refl, Bool, true, false, ◌&&◌, ◌||◌, cond, List, [], ◌∷◌, ◌++◌, eqb, length, get_or, take}
use Rattle.std.proofs.Common.{sym, ◌∙◌, ap, subst, ⊎_elim, true≢false, append_assoc, arith, eq-eqb, ne_eqb}
use Rattle.std.proofs.lemmas.Bool.{false≢true}
use mathlib.Core.List.Memᴰ
use Rattle.std.proofs.Math.Decide.{ℕ_discrete}
use Rattle.definition.specs.Lists.{from, all, count, largest, joined, Among}

-- members by index, and of a front
pub member_at : (xs : List ℕ) (k : ℕ) → k < length xs → Among (get_or xs k 0) xs
member_at [] k h = absurd (omega arith)
member_at (x ∷ xs) zero h = Memᴰ.head refl
member_at (x ∷ xs) (suc k) h = Memᴰ.tail (member_at xs k (omega arith))

pub at_member : (x : ℕ) (xs : List ℕ) → Among x xs → (k : ℕ) × (k < length xs) × (get_or xs k 0 ≡ x)
at_member x [] x'' = elim x'' [ ]
at_member x (y ∷ xs) (Memᴰ.head e) = (0, omega arith, sym e)
at_member x (y ∷ xs) (Memᴰ.tail m) =
    let h : (k : ℕ) × (k < length xs) × (get_or xs k 0 ≡ x) = at_member x xs m in
    (suc h.0, omega arith, h.2)

pub member_take : (x n : ℕ) (xs : List ℕ) → Among x (take n xs) → Among x xs
member_take x zero xs m = elim m [ ]
member_take x (suc n) [] m = m
member_take x (suc n) (y ∷ xs) m =
    ⊎_elim (λ (e : x ≡ y). Memᴰ.head e) (λ (k : Among x (take n xs)). Memᴰ.tail (member_take x n xs k))
    (Memᴰ.cases_cons m)

-- from: its length, its members, its parts
pub from_length : (i n : ℕ) → length (from i n) ≡ n
unfolding from
from_length i zero = refl
from_length i (suc n) = ap suc (from_length (suc i) n)

pub from_add : (i n k : ℕ) → from i (n + k) ≡ from i n ++ from (i + n) k
unfolding from
from_add i zero k = let e : 0 + k ≡ k = omega arith in let h : i + 0 ≡ i = omega arith in rw (e, h)
from_add i (suc n) k =
    let e : suc n + k ≡ suc (n + k) = omega arith in
    let h : i + suc n ≡ suc i + n = omega arith in
    rw (e, h) (ap (λ (l : List ℕ). i ∷ l) (from_add (suc i) n k))

pub from_snoc : (i n : ℕ) → from i (suc n) ≡ from i n ++ ((i + n) ∷ [])
unfolding from
from_snoc i zero = ap (λ (k : ℕ). k ∷ []) (omega arith)
from_snoc i (suc n) =
    ap (λ (l : List ℕ). i ∷ l) (from_snoc (suc i) n ∙ ap (λ (k : ℕ). from (suc i) n ++ (k ∷ [])) (omega arith))

pub member_from : (i n k : ℕ) → i ≤ k → k < i + n → Among k (from i n)
unfolding from
member_from i zero k l h = absurd (omega arith)
member_from i (suc n) k l h = go (ℕ_discrete k i) (λ w. member_from (suc i) n k w (omega arith))
  where
    go : Dec (k ≡ i) → (i < k → Among k (from (suc i) n)) → Among k (i ∷ from (suc i) n)
    go (yes e) rest = Memᴰ.head e
    go (no e) rest = Memᴰ.tail (rest (omega arith))

pub from_member : (i n k : ℕ) → Among k (from i n) → (i ≤ k) × (k < i + n)
unfolding from
from_member i zero k m = elim m [ ]
from_member i (suc n) k m =
    ⊎_elim (λ (e : k ≡ i). omega arith) (λ (l : Among k (from (suc i) n)). omega (arith, from_member (suc i) n k l))
    (Memᴰ.cases_cons m)

-- tests that pass or fail together
pub neither : (a b : Bool) → a || b ≡ false → (a ≡ false) × (b ≡ false)
neither true b h = absurd (true≢false h)
neither false b h = (refl, h)

pub or_false : (b : Bool) → b || false ≡ b
or_false true = refl
or_false false = refl

-- all: of an append, at a member, from the members, and the same over a range
pub and_true : (a b : Bool) → a && b ≡ true → (a ≡ true) × (b ≡ true)
and_true true b h = (refl, h)
and_true false b h = absurd (false≢true h)

pub true_and : (a b : Bool) → a ≡ true → b ≡ true → a && b ≡ true
true_and true b h k = k
true_and false b h k = h

pub and_false : (a b : Bool) → b ≡ false → a && b ≡ false
and_false true b h = h
and_false false b h = refl

pub all_append : (t : ℕ → Bool) (xs ys : List ℕ) → all t (xs ++ ys) ≡ all t xs && all t ys
unfolding all
all_append t [] ys = refl
all_append t (x ∷ xs) ys = go (t x) (all_append t xs ys)
  where
    go : (b : Bool) → all t (xs ++ ys) ≡ all t xs && all t ys → b && all t (xs ++ ys) ≡ b && all t xs && all t ys
    go true h = h
    go false h = refl

pub all_member : (t : ℕ → Bool) (x : ℕ) (xs : List ℕ) → all t xs ≡ true → Among x xs → t x ≡ true
unfolding all
all_member t x [] h x3 = elim x3 [ ]
all_member t x (y ∷ xs) h (Memᴰ.head e) = ap t e ∙ (and_true (t y) (all t xs) h).0
all_member t x (y ∷ xs) h (Memᴰ.tail m) = all_member t x xs (and_true (t y) (all t xs) h).1 m

pub member_all : (t : ℕ → Bool) (xs : List ℕ) → ((x : ℕ) → Among x xs → t x ≡ true) → all t xs ≡ true
unfolding all
member_all t [] h = refl
member_all t (x ∷ xs) h =
    true_and (t x) (all t xs) (h x (Memᴰ.head refl)) (member_all t xs (λ y m. h y (Memᴰ.tail m)))

-- one member that fails
pub all_fails : (t : ℕ → Bool) (x : ℕ) (xs : List ℕ) → Among x xs → t x ≡ false → all t xs ≡ false
all_fails t x xs m h = go (all t xs) refl
  where
    go : (b : Bool) → all t xs ≡ b → b ≡ false
    go true e = sym (all_member t x xs e m) ∙ h
    go false e = refl

pub all_from : (t : ℕ → Bool) (i n k : ℕ) → all t (from i n) ≡ true → i ≤ k → k < i + n → t k ≡ true
all_from t i n k h a b = all_member t k (from i n) h (member_from i n k a b)

pub from_all : (t : ℕ → Bool) (i n : ℕ) → ((k : ℕ) → i ≤ k → k < i + n → t k ≡ true) → all t (from i n) ≡ true
from_all t i n h = member_all t (from i n) (λ k m. h k (from_member i n k m).0 (from_member i n k m).1)

pub all_from_fails : (t : ℕ → Bool) (i n k : ℕ) → i ≤ k → k < i + n → t k ≡ false → all t (from i n) ≡ false
all_from_fails t i n k a b = all_fails t k (from i n) (member_from i n k a b)

pub all_same : (s t : ℕ → Bool) (xs : List ℕ) → ((x : ℕ) → Among x xs → s x ≡ t x) → all s xs ≡ all t xs
unfolding all
all_same s t [] h = refl
all_same s t (x ∷ xs) h =
    let a : s x ≡ t x = h x (Memᴰ.head refl) in
    let b : all s xs ≡ all t xs = all_same s t xs (λ y m. h y (Memᴰ.tail m)) in
    rw (a, b)

-- count: of one more, of an append; positive at the members alone
pub count_here : (x y : ℕ) (ys : List ℕ) → x ≡ y → count x (y ∷ ys) ≡ suc (count x ys)
unfolding count
count_here x y ys e = rw (eq-eqb x y e)

pub count_other : (x y : ℕ) (ys : List ℕ) → (x ≡ y → ⊥) → count x (y ∷ ys) ≡ count x ys
unfolding count
count_other x y ys h = rw (ne_eqb x y h)

pub count_append : (x : ℕ) (xs ys : List ℕ) → count x (xs ++ ys) ≡ count x xs + count x ys
unfolding count
count_append x [] ys = omega arith
count_append x (y ∷ xs) ys = go (eqb x y) (count_append x xs ys)
  where
    go : (b : Bool) → count x (xs ++ ys) ≡ count x xs + count x ys →
        cond b (suc (count x (xs ++ ys))) (count x (xs ++ ys)) ≡ cond b (suc (count x xs)) (count x xs) + count x ys
    go true h = omega arith
    go false h = h

pub member_count : (x : ℕ) (xs : List ℕ) → Among x xs → 1 ≤ count x xs
member_count x [] x'' = elim x'' [ ]
member_count x (y ∷ xs) (Memᴰ.head e) = rw (count_here x y xs e) (omega arith)
member_count x (y ∷ xs) (Memᴰ.tail m) = go (ℕ_discrete x y) (member_count x xs m)
  where
    go : Dec (x ≡ y) → 1 ≤ count x xs → 1 ≤ count x (y ∷ xs)
    go (yes e) h = rw (count_here x y xs e) (omega arith)
    go (no e) h = rw (count_other x y xs e) h

pub count_member : (x : ℕ) (xs : List ℕ) → 1 ≤ count x xs → Among x xs
count_member x [] h = absurd (unfold count in omega arith)
count_member x (y ∷ xs) h = go (ℕ_discrete x y) (count_member x xs)
  where
    go : Dec (x ≡ y) → (1 ≤ count x xs → Among x xs) → Among x (y ∷ xs)
    go (yes e) k = Memᴰ.head e
    go (no e) k = Memᴰ.tail (k (rw (count_other x y xs e) at h))

pub count_none : (x : ℕ) (xs : List ℕ) → (Among x xs → ⊥) → count x xs ≡ 0
count_none x xs h = go (count x xs) refl
  where
    go : (n : ℕ) → count x xs ≡ n → count x xs ≡ 0
    go zero e = e
    go (suc n) e = absurd (h (count_member x xs (omega arith)))

-- largest: at least each member's, at most any bound of them all
pub member_largest : (m : ℕ → ℕ) (x : ℕ) (xs : List ℕ) → Among x xs → m x ≤ largest m xs
unfolding largest
member_largest m x [] x'' = elim x'' [ ]
member_largest m x (y ∷ xs) (Memᴰ.head e) = omega (arith, ap m e)
member_largest m x (y ∷ xs) (Memᴰ.tail k) = omega (arith, member_largest m x xs k)

pub largest_bound : (m : ℕ → ℕ) (n : ℕ) (xs : List ℕ) → ((x : ℕ) → Among x xs → m x ≤ n) → largest m xs ≤ n
unfolding largest
largest_bound m n [] h = omega arith
largest_bound m n (x ∷ xs) h = omega (arith, h x (Memᴰ.head refl), largest_bound m n xs (λ y k. h y (Memᴰ.tail k)))

pub largest_same : (m n : ℕ → ℕ) (xs : List ℕ) → ((x : ℕ) → Among x xs → m x ≡ n x) → largest m xs ≡ largest n xs
unfolding largest
largest_same m n [] h = refl
largest_same m n (x ∷ xs) h =
    let a : m x ≡ n x = h x (Memᴰ.head refl) in
    let b : largest m xs ≡ largest n xs = largest_same m n xs (λ y k. h y (Memᴰ.tail k)) in
    rw (a, b)

-- joined: of an append, its members, and how often each stands there
pub joined_append : (g : ℕ → List ℕ) (xs ys : List ℕ) → joined g (xs ++ ys) ≡ joined g xs ++ joined g ys
unfolding joined
joined_append g [] ys = refl
joined_append g (x ∷ xs) ys = rw (joined_append g xs ys, append_assoc)

pub member_joined : (g : ℕ → List ℕ) (x y : ℕ) (xs : List ℕ) → Among x xs → Among y (g x) → Among y (joined g xs)
unfolding joined
member_joined g x y [] x3 k = elim x3 [ ]
member_joined g x y (z ∷ xs) (Memᴰ.head e) k = Memᴰ.append_left (joined g xs) (subst (λ (w : ℕ). Among y (g w)) e k)
member_joined g x y (z ∷ xs) (Memᴰ.tail m) k = Memᴰ.append_right (g z) (member_joined g x y xs m k)

pub joined_member : (g : ℕ → List ℕ) (y : ℕ) (xs : List ℕ) → Among y (joined g xs) → (x : ℕ) × Among x xs × Among y (g x)
unfolding joined
joined_member g y [] m = elim m [ ]
joined_member g y (x ∷ xs) m = ⊎_elim
    (λ (k : Among y (g x)). (x, Memᴰ.head refl, k))
    (λ (k : Among y (joined g xs)). let h : (z : ℕ) × Among z xs × Among y (g z) = joined_member g y xs k in (h.0, Memᴰ.tail h.1, h.2))
    (Memᴰ.append_cases (g x) m)
