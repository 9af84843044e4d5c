-- The target: the crate that has to leave next.
use Rattle.std.specs.Prelude.{◌≡◌, ℕ, suc, ◌<◌, ◌≤◌, min, Bool, cond, ◌&&◌, ◌||◌, ◌⊎◌, List, [], ◌∷◌, length, Some, None, Option, ◌==◌, nat_lt}
use Rattle.model.specs.Bays.{Bay, Slot, items_at}

-- how late a call number is; an uncalled crate is later than every call, and two such are equally late
unfoldable pub lateness : ℕ → ℕ
lateness k = cond (k == 0) 65536 k

-- the lateness of the earliest crate of a stack; 65536 if none is called
abbrev pub lowest : List Slot → ℕ
lowest [] = 65536
lowest (x ∷ xs) = min (lateness x.call) (lowest xs)

-- the number of crates above the highest one of this lateness
abbrev pub above_of : ℕ → List Slot → ℕ
above_of k [] = 0
above_of k (x ∷ xs) = cond (lowest xs == k) (above_of k xs) (length xs)

-- a crate as the target finder takes it: how late it is called, how many crates stand above it, and its stack
pub record Candidate : Type 0 where
  pub late : ℕ
  pub above : ℕ
  pub stack : ℕ

abbrev pub nobody : Candidate
nobody = record { late = 65536; above = 0; stack = 0 }

-- q goes before p: it is called earlier, or they are called alike and it has fewer crates above
abbrev pub beats : Candidate → Candidate → Bool
beats q p = nat_lt q.late p.late || (q.late == p.late && nat_lt q.above p.above)

-- of two, the one that goes first; of two that tie, the first taken
abbrev pub better : Candidate → Candidate → Candidate
better p q = cond (beats q p) q p

-- the best so far, going up the stack s, and over the stacks from s on
abbrev pub scan_stack : Candidate → ℕ → List Slot → Candidate
scan_stack best s [] = best
scan_stack best s (x ∷ xs) = scan_stack (better best (record { late = lateness x.call; above = length xs; stack = s })) s xs

abbrev pub scan_bay : Candidate → ℕ → Bay → Candidate
scan_bay best s [] = best
scan_bay best s (t ∷ b) = scan_bay (scan_stack best s t.items) (suc s) b

abbrev pub chosen : Candidate → Option (ℕ × ℕ)
chosen c = cond (nat_lt c.late 65536) (Some (c.stack, c.above)) None

-- the stack of the target and the number of crates above it, or none if no crate is called
unfoldable pub target : Bay → Option (ℕ × ℕ)
target b = chosen (scan_bay nobody 1 b)

-- the crates of a stack leave no earlier than one called k with a crates above
abbrev pub NoEarlier : ℕ → ℕ → List Slot → Type 0
NoEarlier k a xs = (k < lowest xs) ⊎ ((lowest xs ≡ k) × (a ≤ above_of k xs))

-- What it is to be the target, stack by stack, counted from 0: at place i, called k, with a crates above.
-- No crate is called earlier; of those called alike none has fewer above, and none as few in a stack before.
pub record Targeted (b : Bay) (k i a : ℕ) : Type 0 where
  pub called : k < 65536
  pub inside : i < length b
  pub here : lowest (items_at b i) ≡ k
  pub above : above_of k (items_at b i) ≡ a
  pub least : (j : ℕ) → NoEarlier k a (items_at b j)
  pub first : (j : ℕ) → j < i → NoEarlier k (suc a) (items_at b j)

-- the crate of stack s with a crates above is the target
pub record IsTarget (b : Bay) (s a : ℕ) : Type 0 where
  pub call : ℕ
  pub place : ℕ
  pub number : s ≡ suc place
  pub targeted : Targeted b call place a

-- what the target finder says: no crate is called, or where the target is
abbrev pub TargetMeans : Bay → Option (ℕ × ℕ) → Type 0
TargetMeans b None = (i : ℕ) → 65536 ≤ lowest (items_at b i)
TargetMeans b (Some t) = IsTarget b t.0 t.1
