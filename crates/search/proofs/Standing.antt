-- Where the loop of a round stands, and what the round comes to from there.
use Rattle.std.proofs.Common.{◌≡◌, ℕ, suc, ◌+◌, ◌<◌, ◌≤◌, Bool, true, false, cond, ◌≢◌, List, [], ◌∷◌, ◌++◌, length, Some, None, sym, refl, ap, ◌∙◌, subst, append_assoc, append-nil, add-one, arith}
use Rattle.std.specs.List.{All}
use Rattle.std.proofs.lemmas.List.{map_push, length_push}
use Rattle.std.proofs.lemmas.List.Elements.{All-nil, All-push, All-pop}
use Rattle.bay.specs.declared.work.WorkBay.{WorkBay}
use Rattle.bay.specs.Ask.{opens}
use Rattle.bay.specs.Shown.{shown}
use Rattle.bay.proofs.Bays.{work_sound}
use Rattle.model.specs.Bays.{Bay}
use Rattle.model.specs.Targets.{target}
use Rattle.model.specs.Search.{ways, ways_at, next, Round, found, spent, over}
use Rattle.model.proofs.Loops.{Level, path, remaining, unwind, along, whole_open, loop_spent, loop_cut, loop_found, loop_deeper, remaining_end, remaining_more, remaining-all}
use Rattle.search.specs.declared.workspace.Frame.{Frame}
use Rattle.search.specs.Rounds.{Aims, round_from}
use Rattle.search.specs.Told.{framed}

-- the destinations of b that are left at stack d, for a target in stack s
left_open : (b : Bay) (s d : ℕ) → 0 < d → d ≤ length b → opens b s d ≡ true → remaining b s d ≡ d ∷ remaining b s (suc d)
left_open b s d p l e = remaining_more b s d p l ∙ ap (λ t. cond t (d ∷ remaining b s (suc d)) (remaining b s (suc d))) e

left_shut : (b : Bay) (s d : ℕ) → 0 < d → d ≤ length b → opens b s d ≡ false → remaining b s d ≡ remaining b s (suc d)
left_shut b s d p l e = remaining_more b s d p l ∙ ap (λ t. cond t (d ∷ remaining b s (suc d)) (remaining b s (suc d))) e

pub ways_open : (b : Bay) (s : ℕ) → Aims b s → ways b ≡ Some (remaining b s 1)
unfolding ways
ways_open b s a = ap (ways_at b) a.is ∙ ap Some (sym (remaining-all b s))

pub ways_none : (b : Bay) → None ≡ target b → ways b ≡ None
unfolding ways
ways_none b e = ap (ways_at b) (sym e)

-- a frame as a level of the round
abbrev pub level : Frame → Level
level x = record { bay = shown x.bay; dest = x.destination; rest = remaining (shown x.bay) x.source (suc x.destination) }

-- the frames, outermost first, onto a pile
abbrev pub pile_on : List Level → List Frame → List Level
pile_on acc [] = acc
pile_on acc (x ∷ xs) = pile_on (level x ∷ acc) xs

-- what the round comes to from where the loop stands
unfoldable pub standing : (Bay → ℕ) → ℕ → ℕ → List Frame → WorkBay → ℕ → ℕ → Bool → ℕ → Round
standing h budget limit items here s d cut n =
    unwind h budget limit (pile_on [] items) (along h budget limit (length items) (shown here) (remaining (shown here) s d) cut n)

-- what is kept in a frame can be gone on with
pub record Held (x : Frame) : Type 0 where
  pub high : x.destination ≤ 12
  pub low : 0 < x.destination
  pub aims : Aims (shown x.bay) x.source

-- the frames and the bay can be gone on with
pub record Fit (limit : ℕ) (items : List Frame) (at : Frame) : Type 0 where
  pub depth : length items ≤ limit
  pub kept : All Held items
  pub aims : Aims (shown at.bay) at.source

-- the loop stands at stack d of a bay, and what the whole round comes to is what it comes to from there
pub record Stands (h : Bay → ℕ) (budget limit : ℕ) (start : WorkBay) (made : ℕ) (items : List Frame) (at : Frame) (d : ℕ) (cut : Bool) (n : ℕ) : Type 0 where
  pub is : round_from h budget limit (shown start) made ≡ standing h budget limit items at.bay at.source d cut n
  pub fit : Fit limit items at
  pub low : 0 < d
  pub tries : n ≤ budget

-- a try at stack d, which leads to the settled bay v
pub record Tried (budget : ℕ) (at : Frame) (d n : ℕ) (v : WorkBay) : Type 0 where
  pub there : d ≤ length (shown at.bay)
  pub way : opens (shown at.bay) at.source d ≡ true
  pub left : n ≢ budget
  pub after : shown v ≡ next (shown at.bay) d

pile_snoc : (acc : List Level) (items : List Frame) (x : Frame) → pile_on acc (items ++ x ∷ []) ≡ level x ∷ pile_on acc items
pile_snoc acc [] x = refl
pile_snoc acc (y ∷ items) x = pile_snoc (level y ∷ acc) items x

pile_length : (acc : List Level) (items : List Frame) → length (pile_on acc items) ≡ length acc + length items
pile_length acc [] = omega arith
pile_length acc (y ∷ items) = omega (arith, pile_length (level y ∷ acc) items)

pile_path : (acc : List Level) (items : List Frame) → path (pile_on acc items) ≡ path acc ++ framed items
pile_path acc [] = sym (append-nil (path acc))
pile_path acc (y ∷ items) = pile_path (level y ∷ acc) items ∙ append_assoc (path acc) (y.destination ∷ []) (framed items)

module _ (h : Bay → ℕ) (budget limit : ℕ) where
  -- a standing over its pile, with the depth as the pile's length
  over_pile : (items : List Frame) (w : WorkBay) (s d : ℕ) (cut : Bool) (n : ℕ)
      → standing h budget limit items w s d cut n
      ≡ unwind h budget limit (pile_on [] items) (along h budget limit (length (pile_on [] items)) (shown w) (remaining (shown w) s d) cut n)
  unfolding standing
  over_pile items w s d cut n =
      ap (λ k. unwind h budget limit (pile_on [] items) (along h budget limit k (shown w) (remaining (shown w) s d) cut n)) (sym (pile_length [] items ∙ omega arith))

  over_open : (items : List Frame) (w : WorkBay) (s d : ℕ) (cut : Bool) (n : ℕ) → 0 < d → d ≤ length (shown w) → opens (shown w) s d ≡ true
      → standing h budget limit items w s d cut n
      ≡ unwind h budget limit (pile_on [] items) (along h budget limit (length (pile_on [] items)) (shown w) (d ∷ remaining (shown w) s (suc d)) cut n)
  over_open items w s d cut n p l e =
      over_pile items w s d cut n
      ∙ ap (λ os. unwind h budget limit (pile_on [] items) (along h budget limit (length (pile_on [] items)) (shown w) os cut n)) (left_open (shown w) s d p l e)

  module _ (items : List Frame) (w : WorkBay) (s d : ℕ) (cut : Bool) (n : ℕ) (p : 0 < d) where
    abbrev here : Round
    here = standing h budget limit items w s d cut n

    -- a stack that is passed over
    pub standing_skip : d ≤ length (shown w) → opens (shown w) s d ≡ false → here ≡ standing h budget limit items w s (d + 1) cut n
    unfolding standing
    standing_skip l e =
        ap (λ os. unwind h budget limit (pile_on [] items) (along h budget limit (length items) (shown w) os cut n)) (left_shut (shown w) s d p l e ∙ ap (remaining (shown w) s) (sym (add-one d)))

    -- no try is left
    pub standing_spent : d ≤ length (shown w) → opens (shown w) s d ≡ true → n ≡ budget → here ≡ spent n
    standing_spent l e q = over_open items w s d cut n p l e ∙ loop_spent h budget limit (pile_on [] items) (shown w) d (remaining (shown w) s (suc d)) cut n q

    -- a try that is cut
    pub standing_cut : d ≤ length (shown w) → opens (shown w) s d ≡ true → n ≢ budget → limit < length items + 1 + h (next (shown w) d)
        → here ≡ standing h budget limit items w s (d + 1) true (n + 1)
    standing_cut l e ne lt =
        over_open items w s d cut n p l e
        ∙ loop_cut h budget limit (pile_on [] items) (shown w) d (remaining (shown w) s (suc d)) cut n ne (omega (arith, pile_length [] items))
        ∙ sym (over_pile items w s (suc d) true (suc n))
        ∙ rw (add-one d, add-one n)

    -- a try that ends with a plan
    pub standing_found : d ≤ length (shown w) → opens (shown w) s d ≡ true → n ≢ budget → length items + 1 + h (next (shown w) d) ≤ limit
        → None ≡ target (next (shown w) d)
        → here ≡ found (framed (items ++ record { bay = w; source = s; destination = d } ∷ [])) (n + 1)
    standing_found l e ne le q =
        over_open items w s d cut n p l e
        ∙ loop_found h budget limit (pile_on [] items) (shown w) d (remaining (shown w) s (suc d)) cut n ne (omega (arith, pile_length [] items)) (ways_none (next (shown w) d) q)
        ∙ ap (λ v. found v (suc n)) (ap (λ v. v ++ d ∷ []) (pile_path [] items) ∙ sym (map_push (λ (f : Frame). f.destination) items (record { bay = w; source = s; destination = d })))
        ∙ rw (add-one n)

    -- a try that is gone into
    pub standing_deeper : d ≤ length (shown w) → opens (shown w) s d ≡ true → n ≢ budget → length items + 1 + h (next (shown w) d) ≤ limit
        → (v : WorkBay) (t : ℕ) → shown v ≡ next (shown w) d → Aims (shown v) t
        → here ≡ standing h budget limit (items ++ record { bay = w; source = s; destination = d } ∷ []) v t 1 cut (n + 1)
    standing_deeper l e ne le v t ev a =
        over_open items w s d cut n p l e
        ∙ loop_deeper h budget limit (pile_on [] items) (shown w) d (remaining (shown w) s (suc d)) cut n (remaining (next (shown w) d) t 1) ne
        (omega (arith, pile_length [] items)) (subst (λ b. ways b ≡ Some (remaining b t 1)) ev (ways_open (shown v) t a))
        ∙ sym
        (over_pile (items ++ record { bay = w; source = s; destination = d } ∷ []) v t 1 cut (suc n)
        ∙ ap (λ fs. unwind h budget limit fs (along h budget limit (length fs) (shown v) (remaining (shown v) t 1) cut (suc n))) (pile_snoc [] items (record { bay = w; source = s; destination = d }))
        ∙ ap (λ b. unwind h budget limit (level (record { bay = w; source = s; destination = d }) ∷ pile_on [] items) (along h budget limit (suc (length (pile_on [] items))) b (remaining b t 1) cut (suc n))) ev
        )
        ∙ rw (add-one n)

    -- no stack is left: back to the bay before
    pub standing_back : length (shown w) < d → (x : Frame)
        → standing h budget limit (items ++ x ∷ []) w s d cut n ≡ standing h budget limit items x.bay x.source (x.destination + 1) cut n
    standing_back l x =
        over_pile (items ++ x ∷ []) w s d cut n
        ∙ ap (λ fs. unwind h budget limit fs (along h budget limit (length fs) (shown w) (remaining (shown w) s d) cut n)) (pile_snoc [] items x)
        ∙ ap (λ os. unwind h budget limit (level x ∷ pile_on [] items) (along h budget limit (suc (length (pile_on [] items))) (shown w) os cut n)) (remaining_end (shown w) s d l)
        ∙ sym (over_pile items x.bay x.source (suc x.destination) cut n)
        ∙ rw (add-one x.destination)

    pub standing_over : length (shown w) < d → standing h budget limit [] w s d cut n ≡ over cut n
    unfolding standing
    standing_over l = ap (λ os. unwind h budget limit [] (along h budget limit 0 (shown w) os cut n)) (remaining_end (shown w) s d l)

  -- a round begins with nothing kept
  pub from_start : (w : WorkBay) (s n : ℕ) → Aims (shown w) s → round_from h budget limit (shown w) n ≡ standing h budget limit [] w s 1 false n
  unfolding round_from standing
  from_start w s n a = whole_open h budget limit 0 (shown w) (remaining (shown w) s 1) false n (ways_open (shown w) s a)

pub begun : {h : Bay → ℕ} {budget limit : ℕ} (w : WorkBay) (s n : ℕ) {items : List Frame} → items ≡ [] → Aims (shown w) s → n ≤ budget
    → Stands h budget limit w n items (record { bay = w; source = s; destination = 1 }) 1 false n
begun {h = h} {budget = budget} {limit = limit} w s n e a l =
    record {
      is = from_start h budget limit w s n a ∙ ap (λ fs. standing h budget limit fs w s 1 false n) (sym e);
      fit = record { depth = omega (arith, ap length e); kept = subst (All Held) (sym e) (All-nil Held); aims = a };
      low = omega arith;
      tries = l;
    }

module _ {h : Bay → ℕ} {budget limit : ℕ} {start : WorkBay} {made : ℕ} {items : List Frame} {at : Frame} {d : ℕ} {cut : Bool} {n : ℕ} (u : Stands h budget limit start made items at d cut n) where
  -- a stack that is passed over
  pub skipped : d ≤ length (shown at.bay) → opens (shown at.bay) at.source d ≡ false → Stands h budget limit start made items at (d + 1) cut n
  skipped l e =
      record {
        is = u.is ∙ standing_skip h budget limit items at.bay at.source d cut n u.low l e;
        fit = u.fit;
        low = omega arith;
        tries = u.tries;
      }

  -- no try is left
  pub used_up : d ≤ length (shown at.bay) → opens (shown at.bay) at.source d ≡ true → n ≡ budget → round_from h budget limit (shown start) made ≡ spent n
  used_up l e q = u.is ∙ standing_spent h budget limit items at.bay at.source d cut n u.low l e q

  -- a try that is cut
  pub held_back : {v : WorkBay} → Tried budget at d n v → limit < length items + 1 + h (shown v) → Stands h budget limit start made items at (d + 1) true (n + 1)
  held_back t lt =
      record {
        is = u.is ∙ standing_cut h budget limit items at.bay at.source d cut n u.low t.there t.way t.left (omega (arith, ap h t.after));
        fit = u.fit;
        low = omega arith;
        tries = omega (arith, u.tries, t.left);
      }

  -- a try that ends with a plan
  pub planned : {v : WorkBay} {items' : List Frame} → Tried budget at d n v → items' ≡ items ++ record { bay = at.bay; source = at.source; destination = d } ∷ []
      → length items + 1 + h (shown v) ≤ limit → None ≡ target (shown v) → round_from h budget limit (shown start) made ≡ found (framed items') (n + 1)
  planned t i le q =
      u.is ∙ standing_found h budget limit items at.bay at.source d cut n u.low t.there t.way t.left (omega (arith, ap h t.after)) (q ∙ ap target t.after)
      ∙ ap (λ fs. found (framed fs) (n + 1)) (sym i)

  -- a try that is gone into
  pub deeper : {v : WorkBay} {s : ℕ} {items' : List Frame} → Tried budget at d n v → items' ≡ items ++ record { bay = at.bay; source = at.source; destination = d } ∷ []
      → length items + 1 + h (shown v) ≤ limit → Aims (shown v) s
      → Stands h budget limit start made items' (record { bay = v; source = s; destination = 1 }) 1 cut (n + 1)
  deeper {v = v} {s = s} t i le a =
      let x : Frame = record { bay = at.bay; source = at.source; destination = d } in
      record {
        is =
            u.is ∙ standing_deeper h budget limit items at.bay at.source d cut n u.low t.there t.way t.left (omega (arith, ap h t.after)) v s t.after a
            ∙ ap (λ fs. standing h budget limit fs v s 1 cut (n + 1)) (sym i);
        fit =
            record {
              depth = omega (arith, ap length i, length_push items x);
              kept = subst (All Held) (sym i) (All-push Held items x u.fit.kept (record { high = omega (arith, t.there, (work_sound at.bay).few); low = u.low; aims = u.fit.aims }));
              aims = a;
            };
        low = omega arith;
        tries = omega (arith, u.tries, t.left);
      }

  -- no stack is left: back to the bay before
  pub back : (x : Frame) (items' : List Frame) → items ≡ items' ++ x ∷ [] → length (shown at.bay) < d
      → (x.destination ≤ 12) × Stands h budget limit start made items' (record { bay = x.bay; source = x.source; destination = x.destination + 1 }) (x.destination + 1) cut n
  back x items' i l =
      let two = All-pop Held items items' (Some x) i u.fit.kept in (
        two.1.high,
        record {
          is =
              u.is
              ∙ ap (λ fs. standing h budget limit fs at.bay at.source d cut n) i
              ∙ standing_back h budget limit items' at.bay at.source d cut n u.low l x;
          fit = record { depth = omega (arith, u.fit.depth, ap length i, length_push items' x); kept = two.0; aims = two.1.aims };
          low = omega arith;
          tries = u.tries;
        },
      )

  -- no stack is left, and no bay before
  pub through : items ≡ [] → length (shown at.bay) < d → round_from h budget limit (shown start) made ≡ over cut n
  through i l =
      u.is ∙ ap (λ fs. standing h budget limit fs at.bay at.source d cut n) i ∙ standing_over h budget limit [] at.bay at.source d cut n u.low l
