-- Legal handlings are retrievals of settling, with relocations between them.
use Rattle.std.proofs.Common.{◌≡◌, ℕ, zero, suc, List, [], ◌∷◌, ◌++◌, replicate, Some, None, Option, refl, ap, ◌∙◌, arith}
use Rattle.model.specs.Bays.{Bay, taken_from, relocated}
use Rattle.model.specs.Targets.{target}
use Rattle.model.specs.Moves.{Move, retrieve, relocate, Mem, destinations, Legal, LegalAt, Handles, stack_of, dests, settle}
use Rattle.model.specs.Search.{ways, ways_at, next, Among, Follows}
use Rattle.model.proofs.Settling.{Still, Settles, stop, step, settles, settled, settle_out, settle_still}

-- legal moves, by the target
legal_retrieve_at : (b : Bay) (o : Option (ℕ × ℕ)) → target b ≡ o → LegalAt b o retrieve → (s : ℕ) × (target b ≡ Some (s, 0))
legal_retrieve_at b None e p = absurd p
legal_retrieve_at b (Some (s, zero)) e p = (s, e)
legal_retrieve_at b (Some (s, suc a)) e p = absurd p

pub legal_retrieve : (b : Bay) → Legal b retrieve → (s : ℕ) × (target b ≡ Some (s, 0))
legal_retrieve b p = legal_retrieve_at b (target b) refl p

pub record Relocates (b : Bay) (d : ℕ) : Type 0 where
  pub s : ℕ
  pub a : ℕ
  pub is : target b ≡ Some (s, suc a)
  pub opens : Mem d (destinations b s)

legal_relocate_at : (b : Bay) (d : ℕ) (o : Option (ℕ × ℕ)) → target b ≡ o → LegalAt b o (relocate d) → Relocates b d
legal_relocate_at b d None e p = absurd p
legal_relocate_at b d (Some (s, zero)) e p = absurd p
legal_relocate_at b d (Some (s, suc a)) e p = record { s = s; a = a; is = e; opens = p }

pub legal_relocate : (b : Bay) (d : ℕ) → Legal b (relocate d) → Relocates b d
legal_relocate b d p = legal_relocate_at b d (target b) refl p

pub retrieve_legal : (b : Bay) (s : ℕ) → target b ≡ Some (s, 0) → Legal b retrieve
retrieve_legal b s e = rw e tt

pub relocate_legal : (b : Bay) (d : ℕ) → Relocates b d → Legal b (relocate d)
relocate_legal b d r = rw r.is r.opens

-- settling: every handling of b begins with exactly its retrievals
abbrev pub retrievals : ℕ → List Move
retrievals n = replicate n retrieve

pub steps : {b c : Bay} → Settles b c → ℕ
steps (stop w) = 0
steps (step s e r) = suc (steps r)

pub dests-retrievals : (n : ℕ) (ms : List Move) → dests (retrievals n ++ ms) ≡ dests ms
dests-retrievals zero ms = refl
dests-retrievals (suc n) ms = dests-retrievals n ms

pub handles_on : {b c : Bay} (p : Settles b c) (ms : List Move) → Handles c ms → Handles b (retrievals (steps p) ++ ms)
unfolding steps
handles_on (stop w) ms h = h
handles_on (step {b} {b'} s e r) ms h = (retrieve_legal b s e, rw e (handles_on r ms h))

pub record Rest {b c : Bay} (p : Settles b c) (ms : List Move) : Type 0 where
  pub rest : List Move
  pub is : ms ≡ retrievals (steps p) ++ rest
  pub handles : Handles c rest

pub handles_off : {b c : Bay} (p : Settles b c) (ms : List Move) → Handles b ms → Rest p ms
unfolding steps
handles_off (stop w) ms h = record { rest = ms; is = refl; handles = h }
handles_off (step {b} {b'} s e r) [] h = cc
handles_off (step {b} {b'} s e r) (retrieve ∷ ms) h =
    let f : Handles (taken_from b s) ms = rw e at h.1 in
    let q = handles_off r ms f in
    record { rest = q.rest; is = ap (λ (l : List Move). retrieve ∷ l) q.is; handles = q.handles }
handles_off (step {b} {b'} s e r) (relocate d ∷ ms) h = let z : LegalAt b (Some (s, 0)) (relocate d) = rw e at h.0 in absurd z

-- a handling's destinations are followed from the settled bay
pub followed : (ms : List Move) (b : Bay) → Handles b ms → Follows (settle b) (dests ms)
unfolding ways next
followed [] b h = rw (settle_still b (rw h tt)) (ap (ways_at b) h)
followed (retrieve ∷ ms) b h =
    let l = legal_retrieve b h.0 in
    let ih : Follows (settle (taken_from b (stack_of (target b)))) (dests ms) = followed ms (taken_from b (stack_of (target b))) h.1 in
    rw (settle_out b l.0 l.1) (rw l.1 at ih)
followed (relocate d ∷ ms) b h =
    let l = legal_relocate b d h.0 in
    let ih : Follows (settle (relocated b (stack_of (target b)) d)) (dests ms) = followed ms (relocated b (stack_of (target b)) d) h.1 in
    rw (settle_still b (rw l.is (omega arith))) (rw l.is l.opens, ih)

pub record Handling (b : Bay) (ds : List ℕ) : Type 0 where
  pub moves : List Move
  pub handles : Handles b moves
  pub along : dests moves ≡ ds

pub ways_none : (b : Bay) (o : Option (ℕ × ℕ)) → target b ≡ o → ways_at b o ≡ None → target b ≡ None
ways_none b None e p = e
ways_none b (Some t) e p = cc

among_at : (b : Bay) (d : ℕ) (o : Option (ℕ × ℕ)) → target b ≡ o → Still o → Among d (ways_at b o) → Relocates b d
among_at b d None e w m = absurd m
among_at b d (Some (s, zero)) e w m = absurd (omega arith)
among_at b d (Some (s, suc a)) e w m = record { s = s; a = a; is = e; opens = m }

pub among : (b : Bay) (d : ℕ) → Still (target b) → Among d (ways b) → Relocates b d
unfolding ways
among b d w m = among_at b d (target b) refl w m

unsettled : (b : Bay) (ds : List ℕ) → Handling (settle b) ds → Handling b ds
unsettled b ds h =
    record {
      moves = retrievals (steps (settles b)) ++ h.moves;
      handles = handles_on (settles b) h.moves h.handles;
      along = dests-retrievals (steps (settles b)) h.moves ∙ h.along;
    }

pub planned : (ds : List ℕ) (b : Bay) → Still (target b) → Follows b ds → Handling b ds
unfolding ways next
planned [] b w f = record { moves = []; handles = ways_none b (target b) refl f; along = refl }
planned (d ∷ ds) b w f =
    let r = relocated b (stack_of (target b)) d in
    let h = unsettled r ds (planned ds (settle r) (settled r) f.1) in
    record {
      moves = relocate d ∷ h.moves;
      handles = (relocate_legal b d (among b d w f.0), h.handles);
      along = ap (λ (l : List ℕ). d ∷ l) h.along;
    }

-- destinations that lead to the end are those of a handling
pub handled : (b : Bay) (ds : List ℕ) → Follows (settle b) ds → Handling b ds
handled b ds f = unsettled b ds (planned ds (settle b) (settled b) f)
