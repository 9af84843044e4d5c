-- Bays: stacks side by side, each with a clearance and what stands in it, bottom first.
use Rattle.std.specs.Prelude.{◌≡◌, ℕ, zero, suc, ◌+◌, ◌-◌, ◌<◌, ◌≤◌, Bool, cond, ◌&&◌, ◌||◌, List, [], ◌∷◌, ◌++◌, length, take, ◌==◌, nat_le, nat_lt, slice_index_or, slice_set}

-- a crate number, and when two of them are the same
abbrev pub CrateId : Type 0
CrateId = ℕ

abbrev pub same_crate : CrateId → CrateId → Bool
same_crate c d = c == d

-- a crate with its call number; 0 is no call
pub record Slot : Type 0 where
  pub crate : CrateId
  pub call : ℕ

-- a stack of crate numbers, as a yard shows it, or of slots, as the planner sees it
pub record StackOf (X : Type 0) : Type 0 where
  pub clearance : ℕ
  pub items : List X

abbrev pub BayOf : Type 0 → Type 0
BayOf X = List (StackOf X)

abbrev pub Stack : Type 0
Stack = StackOf Slot

-- a bay with its calls
abbrev pub Bay : Type 0
Bay = BayOf Slot

abbrev pub no_slot : Slot
no_slot = record { crate = 0; call = 0 }

abbrev pub no_stack : {X : Type 0} → StackOf X
no_stack = record { clearance = 0; items = [] }

-- stacks are numbered from 1; at a number that is not there stands nothing
abbrev pub stack_at : {X : Type 0} → BayOf X → ℕ → StackOf X
stack_at b zero = no_stack
stack_at b (suc i) = slice_index_or b i no_stack

-- what stands at a place, counted from 0
abbrev pub items_at : {X : Type 0} → BayOf X → ℕ → List X
items_at b i = (slice_index_or b i no_stack).items

abbrev pub is_there : {X : Type 0} → BayOf X → ℕ → Bool
is_there b s = nat_lt 0 s && nat_le s (length b)

-- how high a stack may be filled
abbrev pub clearance_of : {X : Type 0} → StackOf X → ℕ
clearance_of s = s.clearance

-- a stack that holds fewer crates than its clearance has space; it may hold more
abbrev pub has_space : {X : Type 0} → StackOf X → Bool
has_space s = nat_lt (length s.items) (clearance_of s)

-- a stack, and a bay, with other things in it
abbrev pub holding : {X : Type 0} → StackOf X → List X → StackOf X
holding s l = record { clearance = s.clearance; items = l }

abbrev pub changed : {X : Type 0} → BayOf X → ℕ → List X → BayOf X
changed b zero l = b
changed b (suc i) l = slice_set b i (holding (slice_index_or b i no_stack) l)

abbrev pub without_top : {X : Type 0} → List X → List X
without_top l = take (length l - 1) l

abbrev pub top_slot : List Slot → Slot
top_slot l = slice_index_or l (length l - 1) no_slot

-- the bay without the top of stack s
unfoldable pub taken_from : {X : Type 0} → BayOf X → ℕ → BayOf X
taken_from b s = changed b s (without_top (stack_at b s).items)

-- the bay with x on top of stack s
unfoldable pub put_on : {X : Type 0} → BayOf X → ℕ → X → BayOf X
put_on b s x = changed b s ((stack_at b s).items ++ (x ∷ []))

-- the top crate of one stack carried to another
unfoldable pub relocated : Bay → ℕ → ℕ → Bay
relocated b from to = put_on (taken_from b from) to (top_slot (stack_at b from).items)

-- a sum over the stacks of a bay, and one over everything in it
abbrev pub total : {X : Type 0} → (List X → ℕ) → BayOf X → ℕ
total F [] = 0
total F (s ∷ b) = F s.items + total F b

abbrev pub tally_in : {X : Type 0} → (X → ℕ) → List X → ℕ
tally_in f [] = 0
tally_in f (x ∷ xs) = f x + tally_in f xs

abbrev pub tally : {X : Type 0} → (X → ℕ) → BayOf X → ℕ
tally f b = total (tally_in f) b

-- the number of crates
abbrev pub crates : Bay → ℕ
crates b = total length b

abbrev pub one : Bool → ℕ
one t = cond t 1 0

abbrev pub is_crate : CrateId → Slot → ℕ
is_crate c x = one (same_crate x.crate c)

abbrev pub is_call : ℕ → Slot → ℕ
is_call k x = one (x.call == k)

-- a crate number of 0 or over 32 bits, or a call number over 16 bits
abbrev pub out_of_range : Slot → ℕ
out_of_range x = one (x.crate == 0 || (nat_lt 4294967295 x.crate || nat_lt 65535 x.call))

-- a bay within the limits, in which no crate number and no call number stands twice
pub record Sound (b : Bay) : Type 0 where
  pub few : length b ≤ 12
  pub heights : (i : ℕ) → length (items_at b i) ≤ 8
  pub clearances : (i : ℕ) → (slice_index_or b i no_stack).clearance ≤ 8
  pub once : (c : CrateId) → tally (is_crate c) b ≤ 1
  pub apart : (k : ℕ) → 0 < k → tally (is_call k) b ≤ 1
  pub ranged : tally out_of_range b ≡ 0
