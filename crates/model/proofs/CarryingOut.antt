-- Destinations that lead to the end are carried out by a legal handling.
use Rattle.std.proofs.Common.{◌≡◌, ℕ, zero, suc, List, [], ◌∷◌, ◌++◌, Some, None, Option, sym, refl, ap, ◌∙◌, subst, append-nil, arith}
use Rattle.model.specs.Bays.{Bay, taken_from}
use Rattle.model.specs.Targets.{target}
use Rattle.model.specs.Moves.{Move, retrieve, relocate, Legal, moved, Handles, dests, stack_of, settle}
use Rattle.model.specs.Search.{ways, next, Follows}
use Rattle.model.specs.Carrying.{Step, step_of, steps_of, LegalRun, after_all, Stuck, CarriedOut}
use Rattle.model.proofs.Settling.{Still, settle_out, settle_still}
use Rattle.model.proofs.Handlings.{among, legal_retrieve, legal_relocate, retrieve_legal, relocate_legal, ways_none}

-- where nothing can be handed out, the bay is settled
pub still_by : (b : Bay) → (Legal b retrieve → ⊥) → Still (target b)
still_by b f = by (target b) refl
  where
    by : (o : Option (ℕ × ℕ)) → target b ≡ o → Still o
    by None e = tt
    by (Some (s, zero)) e = absurd (f (retrieve_legal b s e))
    by (Some (s, suc a)) e = omega arith

carries_end : (b : Bay) (ds : List ℕ) → Stuck b ds → Follows (settle b) ds → (target b ≡ None) × (ds ≡ [])
unfolding ways
carries_end b [] f w = (ways_none b (target b) refl (rw (settle_still b (still_by b f)) at w), refl)
carries_end b (d ∷ ds) f w =
    let v : Follows b (d ∷ ds) = rw (settle_still b (still_by b f.0)) at w in
    absurd (f.1 (relocate_legal b d (among b d (still_by b f.0) v.0)))

carries-all : (ms : List Move) (b : Bay) (ds rest : List ℕ) → LegalRun b ms → dests ms ++ rest ≡ ds → Stuck (after_all b ms) rest → Follows (settle b) ds
    → Handles b ms × (rest ≡ [])
unfolding next
carries-all [] b ds rest l e f w = carries_end b rest f (subst (Follows (settle b)) (sym e) w)
carries-all (retrieve ∷ ms) b ds rest l e f w =
    let q = legal_retrieve b l.0 in
    let is : settle b ≡ settle (moved b retrieve) = settle_out b q.0 q.1 ∙ ap (λ s. settle (taken_from b s)) (sym (ap stack_of q.1)) in
    let ih = carries-all ms (moved b retrieve) ds rest l.1 e f (subst (λ x. Follows x ds) is w) in
    ((l.0, ih.0), ih.1)
carries-all (relocate d ∷ ms) b ds rest l e f w =
    let q = legal_relocate b d l.0 in
    let still : Still (target b) = subst Still (sym q.is) (omega arith) in
    let v : Follows b (d ∷ (dests ms ++ rest)) = subst (λ x. Follows x (d ∷ (dests ms ++ rest))) (settle_still b still) (subst (Follows (settle b)) (sym e) w) in
    let ih = carries-all ms (moved b (relocate d)) (dests ms ++ rest) rest l.1 refl f v.1 in
    ((l.0, ih.0), ih.1)

pub carried_out : (b : Bay) (ds : List ℕ) (steps : List Step) (ms : List Move) (rest : List ℕ) → steps ≡ steps_of b ms → LegalRun b ms → dests ms ++ rest ≡ ds → Stuck (after_all b ms) rest
    → CarriedOut b ds steps
carried_out b ds steps ms rest s l e f =
    record {
      moves = ms;
      rest = rest;
      shown = s;
      legal = l;
      along = e;
      stuck = f;
      handles = λ w. let p = carries-all ms b ds rest l e f w in (p.0, sym (append-nil (dests ms)) ∙ ap (λ r. dests ms ++ r) (sym p.1) ∙ e);
    }

-- one move more at the end
pub legal_more : (b : Bay) (ms : List Move) (m : Move) → LegalRun b ms → Legal (after_all b ms) m → LegalRun b (ms ++ m ∷ [])
legal_more b [] m l p = (p, tt)
legal_more b (x ∷ ms) m l p = (l.0, legal_more (moved b x) ms m l.1 p)

pub after_more : (b : Bay) (ms : List Move) (m : Move) → after_all b (ms ++ m ∷ []) ≡ moved (after_all b ms) m
after_more b [] m = refl
after_more b (x ∷ ms) m = after_more (moved b x) ms m

pub steps_more : (b : Bay) (ms : List Move) (m : Move) → steps_of b (ms ++ m ∷ []) ≡ steps_of b ms ++ step_of (after_all b ms) m ∷ []
steps_more b [] m = refl
steps_more b (x ∷ ms) m = ap (λ l. step_of b x ∷ l) (steps_more (moved b x) ms m)

pub dests_out : (ms : List Move) → dests (ms ++ retrieve ∷ []) ≡ dests ms
dests_out [] = refl
dests_out (retrieve ∷ ms) = dests_out ms
dests_out (relocate d ∷ ms) = ap (λ l. d ∷ l) (dests_out ms)

pub dests_to : (ms : List Move) (d : ℕ) → dests (ms ++ relocate d ∷ []) ≡ dests ms ++ d ∷ []
dests_to [] d = refl
dests_to (retrieve ∷ ms) d = dests_to ms d
dests_to (relocate x ∷ ms) d = ap (λ l. x ∷ l) (dests_to ms d)
