-- What a node names, renumbered.
use Rattle.std.specs.Prelude.{ℕ, ◌<◌, ◌≡◌, refl, List, [], ◌∷◌, map}
use Rattle.std.proofs.Common.{ap, ◌∙◌}
use mathlib.Core.List.Memᴰ
use Rattle.definition.specs.Lists.{Among}
use Rattle.definition.specs.Problem.{Problem, Node, eq, assign, and, xor, impossible, implies, node, children, terms_of, top_level}
use Rattle.meaning.specs.Words.{renumbered, StandsIn}

member_map : (g : ℕ → ℕ) (c : ℕ) (cs : List ℕ) → Among c cs → Among (g c) (map g cs)
member_map g c [] x' = elim x' [ ]
member_map g c (x ∷ xs) (Memᴰ.head e) = Memᴰ.head (ap g e)
member_map g c (x ∷ xs) (Memᴰ.tail m) = Memᴰ.tail (member_map g c xs m)

pub child_there : (ρ σ : ℕ → ℕ) (n : Node) (c : ℕ) → Among c (children n) → Among (ρ c) (children (renumbered ρ σ n))
child_there ρ σ (eq _ _) c m = elim m [ ]
child_there ρ σ (assign _ _) c m = elim m [ ]
child_there ρ σ (impossible _ _) c m = elim m [ ]
child_there ρ σ (and cs) c m = member_map ρ c cs m
child_there ρ σ (xor cs) c m = member_map ρ c cs m
child_there ρ σ (implies ws d) c m = member_map ρ c (d ∷ []) m

pub term_there : (ρ σ : ℕ → ℕ) (n : Node) (t : ℕ) → Among t (terms_of n) → Among (σ t) (terms_of (renumbered ρ σ n))
term_there ρ σ (and _) t m = elim m [ ]
term_there ρ σ (xor _) t m = elim m [ ]
term_there ρ σ (impossible _ _) t m = elim m [ ]
term_there ρ σ (eq x y) t m = member_map σ t (x ∷ y ∷ []) m
term_there ρ σ (assign x s) t m = member_map σ t (x ∷ []) m
term_there ρ σ (implies ws d) t m = member_map σ t ws m

-- nothing is renumbered: the records of p are as they are in q
abbrev pub same : ℕ → ℕ
same t = t

pub map_same : (l : List ℕ) → l ≡ map same l
map_same [] = refl
map_same (x ∷ xs) = ap (λ (l : List ℕ). x ∷ l) (map_same xs)

node_same : (n : Node) → n ≡ renumbered same same n
node_same (eq x y) = refl
node_same (assign x s) = refl
node_same (and cs) = ap and (map_same cs)
node_same (xor cs) = ap xor (map_same cs)
node_same (impossible h e) = refl
node_same (implies ws c) = ap (λ (l : List ℕ). implies l c) (map_same ws)

pub stands_same : (p q : Problem) → ((r : ℕ) → r < p.counts.records → node q r ≡ node p r) →
    ((r : ℕ) → Among r (top_level p) → Among r (top_level q)) → StandsIn p q same same
stands_same p q e m = record { trees = λ r l. e r l ∙ node_same (node p r); tops = m }
