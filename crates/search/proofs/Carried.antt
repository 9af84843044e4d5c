-- The moves of a run, one more each turn.
use Rattle.std.proofs.Common.{◌≡◌, ◌<◌, ℕ, List, [], ◌∷◌, ◌++◌, length, sym, ap, ◌∙◌, subst, append_assoc, arith}
use Rattle.std.proofs.lemmas.List.{map_push, nil_from_length}
use Rattle.bay.specs.Move.{Made, Left}
use Rattle.model.specs.declared.numbers.CrateNumber.{CrateNumber}
use Rattle.model.specs.Bays.{Bay, crates, taken_from, relocated}
use Rattle.model.specs.Moves.{Move, retrieve, relocate, Legal, moved, dests, stack_of}
use Rattle.model.specs.Carrying.{handed_out, carried, top_crate, step_of, steps_of, LegalRun, after_all, Stuck, CarriedOut}
use Rattle.model.proofs.Settling.{out_fewer}
use Rattle.model.proofs.Soundness.{relocates}
use Rattle.model.proofs.Handlings.{legal_retrieve, legal_relocate}
use Rattle.model.proofs.CarryingOut.{carried_out, legal_more, after_more, steps_more, dests_out, dests_to}
use Rattle.search.specs.declared.moves.Move as code
use Rattle.search.specs.declared.moves.Move.TheVariants.{Relocate, Retrieve}
use Rattle.search.specs.Steps.{step_told, steps_told}

-- so far: moves from b that led to the bay c, told as ms, with the destinations that are left
pub record Underway (b : Bay) (ds : List ℕ) (ms : List code.Move) (rest : List ℕ) (c : Bay) : Type 0 where
  pub moves : List Move
  pub shown : steps_told ms ≡ steps_of b moves
  pub legal : LegalRun b moves
  pub along : dests moves ++ rest ≡ ds
  pub now_at : c ≡ after_all b moves

module _ {b : Bay} {ds : List ℕ} {ms : List code.Move} {rest : List ℕ} {c : Bay} (u : Underway b ds ms rest c) where
  told : (x : code.Move) (m : Move) (ms' : List code.Move) → ms' ≡ ms ++ x ∷ [] → step_told x ≡ step_of c m → steps_told ms' ≡ steps_of b (u.moves ++ m ∷ [])
  told x m ms' e q =
      ap steps_told e ∙ map_push step_told ms x
      ∙ ap (λ l. l ++ step_told x ∷ []) u.shown
      ∙ ap (λ z. steps_of b u.moves ++ z ∷ []) (q ∙ ap (λ z. step_of z m) u.now_at)
      ∙ sym (steps_more b u.moves m)

  -- a crate is handed out
  pub handed : (k : CrateNumber) {c' : Bay} {ms' : List code.Move} {s : ℕ} → ms' ≡ ms ++ Retrieve k s ∷ [] → Made c retrieve c' k.number s
      → Underway b ds ms' rest c'
  handed k {ms' = ms'} {s = s} e m =
      record {
        moves = u.moves ++ retrieve ∷ [];
        shown = told (Retrieve k s) retrieve ms' e (ap (λ v. handed_out v s) m.crate ∙ ap (handed_out (top_crate c)) m.stack);
        legal = legal_more b u.moves retrieve u.legal (subst (λ z. Legal z retrieve) u.now_at m.legal);
        along = ap (λ l. l ++ rest) (dests_out u.moves) ∙ u.along;
        now_at = m.after ∙ ap (λ z. moved z retrieve) u.now_at ∙ sym (after_more b u.moves retrieve);
      }

  -- the next destination is taken
  pub went : (k : CrateNumber) {d : ℕ} {left : List ℕ} {c' : Bay} {ms' : List code.Move} {s : ℕ} → rest ≡ d ∷ left → ms' ≡ ms ++ Relocate k s d ∷ []
      → Made c (relocate d) c' k.number s → Underway b ds ms' left c'
  went k {d = d} {left = left} {ms' = ms'} {s = s} r e m =
      record {
        moves = u.moves ++ relocate d ∷ [];
        shown = told (Relocate k s d) (relocate d) ms' e (ap (λ v. carried v s d) m.crate ∙ ap (λ v. carried (top_crate c) v d) m.stack);
        legal = legal_more b u.moves (relocate d) u.legal (subst (λ z. Legal z (relocate d)) u.now_at m.legal);
        along =
            ap (λ l. l ++ left) (dests_to u.moves d)
            ∙ append_assoc (dests u.moves) (d ∷ []) left
            ∙ ap (λ l. dests u.moves ++ l) (sym r)
            ∙ u.along;
        now_at = m.after ∙ ap (λ z. moved z (relocate d)) u.now_at ∙ sym (after_more b u.moves (relocate d));
      }

  -- nothing is handed out
  pub kept : {c' : Bay} → Left c retrieve c' → Underway b ds ms rest c'
  kept o = subst (Underway b ds ms rest) (sym o.same) u

  stopped : Stuck c rest → CarriedOut b ds (steps_told ms)
  stopped f = carried_out b ds (steps_told ms) u.moves rest u.shown u.legal u.along (subst (λ z. Stuck z rest) u.now_at f)

  -- no destination is left
  pub spent : {c' : Bay} → length rest ≡ 0 → Left c retrieve c' → CarriedOut b ds (steps_told ms)
  spent e o = stopped (subst (Stuck c) (sym (nil_from_length rest e)) o.illegal)

  -- the next destination is not legal
  pub barred : {c' c'' : Bay} {d : ℕ} {left : List ℕ} → rest ≡ d ∷ left → Left c retrieve c' → Left c' (relocate d) c'' → CarriedOut b ds (steps_told ms)
  barred {d = d} r o q = stopped (subst (Stuck c) (sym r) (o.illegal, subst (λ z. Legal z (relocate d) → ⊥) o.same q.illegal))

-- each turn has fewer crates, or as many and one destination less
pub fewer_out : {c c' : Bay} {x s : ℕ} → Made c retrieve c' x s → crates c' < crates c
fewer_out {c = c} m =
    let l = legal_retrieve c m.legal in
    omega (arith, ap crates m.after, ap (λ z. crates (taken_from c z)) (ap stack_of l.1), out_fewer c l.0 l.1)

pub same_to : {c c' : Bay} {d x s : ℕ} → Made c (relocate d) c' x s → crates c' ≡ crates c
same_to {c = c} {d = d} m =
    let r = legal_relocate c d m.legal in
    ap crates m.after ∙ ap (λ z. crates (relocated c z d)) (ap stack_of r.is) ∙ (relocates c d r).many
