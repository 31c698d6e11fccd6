-- Each constraint's records stand in the problem that is made of it: what they are as nodes.
use Rattle.std.specs.Prelude.{ℕ, suc, ◌+◌, ◌*◌, ◌≤◌, ◌≡◌, refl, List, [], ◌∷◌, ◌++◌, length, get_or}
use Rattle.std.proofs.Common.{sym, ap, ◌∙◌, append_assoc, arith, length-append, get_or-append-add, take_at, drop_at}
use Rattle.definition.specs.Problem.{Problem, eq, assign, implies, node_of, node, part, kind_of, value_of}
use Rattle.grounded_body.specs.Body.{Constraint, assigned, same, follows}
use Rattle.grounded_body.specs.Layout.{as_cells, records_of, watched, cells_of, records_in, cells_in, side_in}

-- what a constraint's records are, the first of them being n
abbrev pub Is : Problem → ℕ → Constraint → Type 0
Is p n (assigned t) = node p n ≡ assign t 0
Is p n (same x y) = node p n ≡ eq x y
Is p n (follows ws t) = (node p n ≡ assign t 0) × (node p (suc n) ≡ implies ws n)

-- something of each constraint and the number of its first record
abbrev pub Along : (ℕ → Constraint → Type 0) → ℕ → List Constraint → Type 0
Along Q n [] = Unit {0}
Along Q n (g ∷ gs) = Q n g × Along Q (n + records_of g) gs

abbrev pub Standing : Problem → ℕ → List Constraint → Type 0
Standing p = Along (Is p)

-- a cell behind the first m
cell_at : (l front rest : List ℕ) (m k : ℕ) → l ≡ front ++ rest → length front ≡ m → get_or l (m + k) 0 ≡ get_or rest k 0
cell_at l front rest m k e h = rw (e, ← h) (get_or-append-add front rest k 0)

-- a record's cells
pub record RecordIs (p : Problem) (n kind a b c : ℕ) : Type 0 where
  pub kind_is : kind_of p n ≡ kind
  pub first : value_of p n 1 ≡ a
  pub second : value_of p n 2 ≡ b
  pub third : value_of p n 3 ≡ c

record_at : (p : Problem) (n place kind a b c : ℕ) (front rest : List ℕ) →
    p.records ≡ front ++ (as_cells place kind a b c ++ rest) → length front ≡ n * 8 → RecordIs p n kind a b c
record_at p n place kind a b c front rest e h =
    let at : (k : ℕ) → get_or p.records (n * 8 + k) 0 ≡ get_or (as_cells place kind a b c ++ rest) k 0
    = λ k. cell_at p.records front (as_cells place kind a b c ++ rest) (n * 8) k e h in
    let z : n * 8 + 0 ≡ n * 8 = omega arith in
    record { kind_is = ap (λ (i : ℕ). get_or p.records i 0) (sym z) ∙ at 0; first = at 1; second = at 2; third = at 3 }

pub record_node : (p : Problem) (n kind a b c : ℕ) → RecordIs p n kind a b c → node p n ≡ node_of p.side kind a b c
unfolding node
record_node p n kind a b c r = rw (r.kind_is, r.first, r.second, r.third)

-- a part of the side list that stands behind s cells
part_at_lem : (side front ws rest : List ℕ) (s : ℕ) → side ≡ front ++ (ws ++ rest) → length front ≡ s → part side s (length ws) ≡ ws
part_at_lem side front ws rest s e h = rw (e, drop_at front (ws ++ rest) s h, take_at ws rest (length ws) refl)

-- a constraint's cells: its records, n being the first, and its part of the side list, which starts at s
abbrev pub Cells : Problem → ℕ → Constraint → Type 0
Cells p n (assigned t) = RecordIs p n 1 t 0 0
Cells p n (same x y) = RecordIs p n 0 x y 0
Cells p n (follows ws t) =
    (s : ℕ) × RecordIs p n 1 t 0 0 × RecordIs p (suc n) 5 s (length ws) n × (part p.side s (length ws) ≡ ws) × (s + length ws ≤ length p.side)

pub cells_is : (p : Problem) (n : ℕ) (g : Constraint) → Cells p n g → Is p n g
unfolding node_of
cells_is p n (assigned t) r = record_node p n 1 t 0 0 r
cells_is p n (same x y) r = record_node p n 0 x y 0 r
cells_is p n (follows ws t) r =
    let (s, first, second, whole, within) = r in
    (record_node p n 1 t 0 0 first, record_node p (suc n) 5 s (length ws) n second ∙ ap (λ (w : List ℕ). implies w n) whole)

part_within : (side front ws rest : List ℕ) (s : ℕ) → side ≡ front ++ (ws ++ rest) → length front ≡ s → s + length ws ≤ length side
part_within side front ws rest s e h = omega (arith, ap length e, length-append front (ws ++ rest), length-append ws rest)

cells_at : (p : Problem) (place n s : ℕ) (g : Constraint) (front rest sf sr : List ℕ) →
    p.records ≡ front ++ (cells_of place n s g ++ rest) → length front ≡ n * 8 → p.side ≡ sf ++ (watched g ++ sr) → length sf ≡ s → Cells p n g
cells_at p place n s (assigned t) front rest sf sr e h k l = record_at p n place 1 t 0 0 front rest e h
cells_at p place n s (same x y) front rest sf sr e h k l = record_at p n place 0 x y 0 front rest e h
cells_at p place n s (follows ws t) front rest sf sr e h k l = (
  s,
  record_at p n place 1 t 0 0 front (as_cells place 5 s (length ws) n ++ rest) e h,
  record_at p (suc n) place 5 s (length ws) n (front ++ as_cells place 1 t 0 0) rest
      (e ∙ sym (append_assoc front (as_cells place 1 t 0 0) (as_cells place 5 s (length ws) n ++ rest)))
      (omega (arith, h, length-append front (as_cells place 1 t 0 0))),
  part_at_lem p.side sf ws sr s k l,
  part_within p.side sf ws sr s k l,
)

cells_length : (place n s : ℕ) (g : Constraint) → length (cells_of place n s g) ≡ records_of g * 8
cells_length place n s (assigned t) = refl
cells_length place n s (same x y) = refl
cells_length place n s (follows ws t) = refl

pub cells_count : (place n s : ℕ) (gs : List Constraint) → length (cells_in place n s gs) ≡ records_in gs * 8
unfolding cells_in records_in
cells_count place n s [] = refl
cells_count place n s (g ∷ gs) =
    let n' : ℕ = n + records_of g in
    let s' : ℕ = s + length (watched g) in
    omega (arith, length-append (cells_of place n s g) (cells_in place n' s' gs), cells_length place n s g, cells_count place n' s' gs)

pub celled : (p : Problem) (place n s : ℕ) (gs : List Constraint) (front sf : List ℕ) →
    p.records ≡ front ++ cells_in place n s gs → length front ≡ n * 8 → p.side ≡ sf ++ side_in gs → length sf ≡ s → Along (Cells p) n gs
unfolding cells_in side_in
celled p place n s [] front sf e h k l = tt
celled p place n s (g ∷ gs) front sf e h k l =
    let n' : ℕ = n + records_of g in
    let s' : ℕ = s + length (watched g) in (
      cells_at p place n s g front (cells_in place n' s' gs) sf (side_in gs) e h k l,
      celled p place n' s' gs (front ++ cells_of place n s g) (sf ++ watched g)
          (e ∙ sym (append_assoc front (cells_of place n s g) (cells_in place n' s' gs)))
          (omega (arith, h, cells_length place n s g, length-append front (cells_of place n s g)))
          (k ∙ sym (append_assoc sf (watched g) (side_in gs)))
          (omega (arith, l, length-append sf (watched g))),
    )

pub along_map : (Q R : ℕ → Constraint → Type 0) → ((n : ℕ) (g : Constraint) → Q n g → R n g) → (n : ℕ) (gs : List Constraint) → Along Q n gs → Along R n gs
along_map Q R f n [] q = tt
along_map Q R f n (g ∷ gs) q = (f n g q.0, along_map Q R f (n + records_of g) gs q.1)
