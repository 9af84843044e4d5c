-- One round, and the rounds: what each end of the search says of the lists of destinations that lead to the end.
use Rattle.std.proofs.Common.{◌≡◌, ℕ, zero, suc, ◌+◌, ◌<◌, ◌≤◌, Bool, true, false, eqb, ltb, ◌⊎◌, List, [], ◌∷◌, length, Some, None, Option, sym, refl, ap, ◌∙◌, subst, inl, inr, ⊎_elim, arith}
use Rattle.std.proofs.lemmas.Bool.{ltb-true, ltb-false, eqb-true, true≢false}
use Rattle.model.specs.Bays.{Bay}
use Rattle.model.specs.Moves.{Mem}
use Rattle.model.specs.Search.{Among, ways, next, Follows, Sooner, Earlier, Round, found, spent, over, Outcome, fewest, at_least, no_way, onward, unless_spent, unless_cut, across, from_ways, deep, next_round, rounds}
use Rattle.model.proofs.Destinations.{Ordered, OrderedIn, sooner_once, sooner_ordered, sooner_total}
use Rattle.model.proofs.Depth.{same_deep}

-- what an outcome says of the lists of destinations that lead to the end from the settled bay b
abbrev pub Meant : Bay → Outcome → Type 0
Meant b (fewest k ds) =
    Follows b ds × (length ds ≡ k) × ((es : List ℕ) → Follows b es → k ≤ length es)
    × ((es : List ℕ) → Follows b es → length es ≤ k → Earlier b es ds → ⊥)
Meant b (at_least k) = (es : List ℕ) → Follows b es → k ≤ length es
Meant b no_way = (es : List ℕ) → Follows b es → ⊥

-- the solutions from b that begin with one of os
abbrev pub Goes : List ℕ → Bay → List ℕ → Type 0
Goes os b [] = ⊥
Goes os b (d ∷ ds) = Mem d os × Follows (next b d) ds

-- what a round's end says: P holds of the lists that would solve it, g relocations were made before,
-- cut is whether something had been cut before, top bounds how far any branch can need to look
abbrev pub Right : ℕ → ℕ → Bay → (List ℕ → Type 0) → ℕ → ℕ → Bool → Round → Type 0
Right budget limit b P g top cut (found ds n) =
    P ds × (g + length ds ≤ limit) × ((es : List ℕ) → P es → g + length es ≤ limit → Earlier b es ds → ⊥)
Right budget limit b P g top cut (spent n) = n ≡ budget
Right budget limit b P g top cut (over c n) =
    ((es : List ℕ) → P es → limit < g + length es)
    × (c ≡ false → (cut ≡ false) × ((es : List ℕ) → P es → ⊥))
    × (c ≡ true → (cut ≡ true) ⊎ (limit < g + top))

pub record Laws (h : Bay → ℕ) (Fine : Bay → Type 0) (left : Bay → ℕ) (H : ℕ) : Type 0 where
  pub keeps : (b : Bay) (d : ℕ) → Fine b → Among d (ways b) → Fine (next b d)
  pub falls : (b : Bay) (d : ℕ) → Fine b → Among d (ways b) → left (next b d) < left b
  pub small : (b : Bay) → Fine b → h b ≤ H
  pub honest : (b : Bay) (ds : List ℕ) → Fine b → Follows b ds → h b ≤ length ds

weaken : (b : Bay) (d : ℕ) (os ds : List ℕ) → Goes os b ds → Goes (d ∷ os) b ds
weaken b d os [] p = p
weaken b d os (e ∷ tl) p = (inr p.0, p.1)

split : (b : Bay) (d : ℕ) (os : List ℕ) (e : ℕ) (tl : List ℕ) → Goes (d ∷ os) b (e ∷ tl)
    → Goes os b (e ∷ tl) ⊎ ((e ≡ d) × Follows (next b d) tl)
split b d os e tl p =
    ⊎_elim (λ q. inr (q, subst (λ x. Follows (next b x) tl) q p.1)) (λ m. inl (m, p.1)) p.0

module _ (h : Bay → ℕ) (Fine : Bay → Type 0) (left : Bay → ℕ) (H : ℕ) (L : Laws h Fine left H) (budget limit : ℕ) where
  abbrev DeepRight : ℕ → Type 0
  DeepRight l = (g : ℕ) (b : Bay) (cut : Bool) (n : ℕ) → Fine b → limit < g + l → g ≤ limit
      → Right budget limit b (Follows b) g (left b + H) cut (deep h budget limit l g b cut n)

  try_right : (l : ℕ) → DeepRight l → (g : ℕ) (b : Bay) (cut : Bool) (n : ℕ) → Fine b → limit < g + l
      → (t : Bool) → ltb limit (g + h b) ≡ t
      → Right budget limit b (Follows b) g (left b + H) cut (unless_cut t (deep h budget limit l g b) cut n)
  try_right l ih g b cut n fine far true e =
      let lt : limit < g + h b = ltb-true limit (g + h b) e in
      let sm : h b ≤ H = L.small b fine in
      (λ es f. omega (arith, L.honest b es fine f), λ c. absurd (true≢false c), λ _. inr (omega arith))
  try_right l ih g b cut n fine far false e = ih g b cut n fine far (omega (arith, ltb-false limit (g + h b) e))

  widen : (b : Bay) (d : ℕ) (os : List ℕ) (g top : ℕ) (cut c : Bool)
      → ((es : List ℕ) → Follows (next b d) es → limit < suc g + length es)
      → (c ≡ false → (cut ≡ false) × ((es : List ℕ) → Follows (next b d) es → ⊥))
      → (c ≡ true → (cut ≡ true) ⊎ (limit < g + top))
      → (r : Round) → Right budget limit b (Goes os b) g top c r → Right budget limit b (Goes (d ∷ os) b) g top cut r
  widen b d os g top cut c none noneAll cutting (found ds n) p =
      (weaken b d os ds p.0, p.1, later)
    where
      later : (es : List ℕ) → Goes (d ∷ os) b es → g + length es ≤ limit → Earlier b es ds → ⊥
      later [] q short e = q
      later (x ∷ tl) q short e =
          ⊎_elim (λ w. p.2 (x ∷ tl) w short e) (λ w. let no : limit < suc g + length tl = none tl w.1 in omega arith) (split b d os x tl q)
  widen b d os g top cut c none noneAll cutting (spent n) p = p
  widen b d os g top cut c none noneAll cutting (over c' n) p =
      (far, λ z. ((noneAll (p.1 z).0).0, nothing z), λ z. ⊎_elim cutting inr (p.2 z))
    where
      far : (es : List ℕ) → Goes (d ∷ os) b es → limit < g + length es
      far [] q = absurd q
      far (x ∷ tl) q =
          ⊎_elim (λ w. p.0 (x ∷ tl) w) (λ w. let no : limit < suc g + length tl = none tl w.1 in omega arith) (split b d os x tl q)

      nothing : c' ≡ false → (es : List ℕ) → Goes (d ∷ os) b es → ⊥
      nothing z [] q = q
      nothing z (x ∷ tl) q =
          ⊎_elim ((p.1 z).1 (x ∷ tl)) (λ w. (noneAll (p.1 z).0).1 tl w.1) (split b d os x tl q)

  onward_right : (b : Bay) (d : ℕ) (os : List ℕ) (g top : ℕ) (cut : Bool) → Ordered (Sooner b) (d ∷ os) → suc (left (next b d) + H) ≤ top
      → (rest : Bool → ℕ → Round) → ((c : Bool) (n : ℕ) → Right budget limit b (Goes os b) g top c (rest c n))
      → (r : Round) → Right budget limit (next b d) (Follows (next b d)) (suc g) (left (next b d) + H) cut r
      → Right budget limit b (Goes (d ∷ os) b) g top cut (onward d rest r)
  onward_right b d os g top cut rise under rest ih (found ds n) p =
      ((inl refl, p.0), omega (arith, p.1), first)
    where
      first : (es : List ℕ) → Goes (d ∷ os) b es → g + length es ≤ limit → Earlier b es (d ∷ ds) → ⊥
      first [] q short e = q
      first (x ∷ tl) q short (inl so) =
          ⊎_elim (λ w. sooner_once b x d so (rise.0 x w.0)) (λ w. let z : Sooner b d d = subst (λ v. Sooner b v d) w.0 so in sooner_once b d d z z) (split b d os x tl q)
      first (x ∷ tl) q short (inr e) =
          ⊎_elim (λ w. let z : Sooner b d d = subst (Sooner b d) e.0 (rise.0 x w.0) in sooner_once b d d z z)
          (λ w. p.2 tl w.1 (omega arith) (subst (λ v. Earlier (next b v) tl ds) w.0 e.1)) (split b d os x tl q)
  onward_right b d os g top cut rise under rest ih (spent n) p = p
  onward_right b d os g top cut rise under rest ih (over c n) p =
      widen b d os g top cut c p.0 p.1 (λ z. ⊎_elim inl (λ w. inr (omega arith)) (p.2 z)) (rest c n) (ih c n)

  spent_right : (b : Bay) (P : List ℕ → Type 0) (g top : ℕ) (cut : Bool) (n : ℕ) (t : Bool) → eqb n budget ≡ t
      → (try : ℕ → Round) → ((m : ℕ) → Right budget limit b P g top cut (try m)) → Right budget limit b P g top cut (unless_spent t try n)
  spent_right b P g top cut n true e try p = eqb-true n budget e
  spent_right b P g top cut n false e try p = p (suc n)

  across_right : (l : ℕ) → DeepRight l → (g : ℕ) (b : Bay) → Fine b → limit < suc g + l
      → (os : List ℕ) → Ordered (Sooner b) os → ((d : ℕ) → Mem d os → Among d (ways b)) → (cut : Bool) (n : ℕ)
      → Right budget limit b (Goes os b) g (left b + H) cut (across h budget limit (deep h budget limit l) g b os cut n)
  across_right l ih g b fine far [] rise sub cut n =
      (nil, λ z. (z, nil'), λ z. inl z)
    where
      nil : (es : List ℕ) → Goes [] b es → limit < g + length es
      nil [] q = absurd q
      nil (x ∷ tl) q = absurd q.0

      nil' : (es : List ℕ) → Goes [] b es → ⊥
      nil' [] q = q
      nil' (x ∷ tl) q = q.0
  across_right l ih g b fine far (d ∷ os) rise sub cut n =
      let at : Among d (ways b) = sub d (inl refl) in
      let less : left (next b d) < left b = L.falls b d fine at in
      spent_right b (Goes (d ∷ os) b) g (left b + H) cut n (eqb n budget) refl _
      (λ m. onward_right b d os g (left b + H) cut rise (omega arith) _
      (λ c k. across_right l ih g b fine far os rise.1 (λ x q. sub x (inr q)) c k)
      _ (try_right l ih (suc g) (next b d) cut m (L.keeps b d fine at) far (ltb limit (suc g + h (next b d))) refl))

  same : (b : Bay) (P Q : List ℕ → Type 0) → ((es : List ℕ) → P es → Q es) → ((es : List ℕ) → Q es → P es)
      → (g top : ℕ) (cut : Bool) (r : Round) → Right budget limit b P g top cut r → Right budget limit b Q g top cut r
  same b P Q pq qp g top cut (found ds n) p = (pq ds p.0, p.1, λ es f. p.2 es (qp es f))
  same b P Q pq qp g top cut (spent n) p = p
  same b P Q pq qp g top cut (over c n) p =
      (λ es f. p.0 es (qp es f), λ z. ((p.1 z).0, λ es f. (p.1 z).1 es (qp es f)), p.2)

  -- the solutions from b, by what its ways are
  abbrev FollowsBy : Option (List ℕ) → Bay → List ℕ → Type 0
  FollowsBy o b [] = o ≡ None
  FollowsBy o b (d ∷ ds) = Among d o × Follows (next b d) ds

  goes : (b : Bay) (os es : List ℕ) → FollowsBy (Some os) b es → Goes os b es
  goes b os [] q = cc
  goes b os (x ∷ tl) q = q

  goes_back : (b : Bay) (os es : List ℕ) → Goes os b es → FollowsBy (Some os) b es
  goes_back b os [] q = absurd q
  goes_back b os (x ∷ tl) q = q

  ways_right : (l : ℕ) → DeepRight l → (g : ℕ) (b : Bay) → Fine b → limit < suc g + l → g ≤ limit
      → (o : Option (List ℕ)) → OrderedIn (Sooner b) o → ((d : ℕ) → Among d o → Among d (ways b)) → (cut : Bool) (n : ℕ)
      → Right budget limit b (FollowsBy o b) g (left b + H) cut (from_ways h budget limit (deep h budget limit l) g b o cut n)
  ways_right l ih g b fine far near None rise sub cut n = (refl, omega arith, λ es f s e. none_before es e)
    where
      none_before : (es : List ℕ) → Earlier b es [] → ⊥
      none_before [] e = e
      none_before (x ∷ tl) e = e
  ways_right l ih g b fine far near (Some os) rise sub cut n =
      same b (Goes os b) (FollowsBy (Some os) b) (goes_back b os) (goes b os) g (left b + H) cut _ (across_right l ih g b fine far os rise sub cut n)

  follows_by : (b : Bay) (es : List ℕ) → FollowsBy (ways b) b es → Follows b es
  follows_by b [] q = q
  follows_by b (x ∷ tl) q = q

  by_follows : (b : Bay) (es : List ℕ) → Follows b es → FollowsBy (ways b) b es
  by_follows b [] q = q
  by_follows b (x ∷ tl) q = q

  deep_right : (l : ℕ) → DeepRight l
  deep_right zero g b cut n fine far near = absurd (omega arith)
  deep_right (suc l) g b cut n fine far near =
      same b (FollowsBy (ways b) b) (Follows b) (follows_by b) (by_follows b) g (left b + H) cut _
      (ways_right l (deep_right l) g b fine (omega arith) near (ways b) (sooner_ordered b) (λ d q. q) cut n)

  -- one round from the settled bay b, with spare depth x
  pub round_right : (x : ℕ) (b : Bay) (n : ℕ) → Fine b
      → Right budget limit b (Follows b) 0 (left b + H) false (deep h budget limit (suc (limit + x)) 0 b false n)
  round_right x b n fine = deep_right (suc (limit + x)) 0 b false n fine (omega arith) (omega arith)

module _ (h : Bay → ℕ) (Fine : Bay → Type 0) (left : Bay → ℕ) (H : ℕ) (L : Laws h Fine left H) (budget : ℕ) where
  next_meant : (limit : ℕ) (b : Bay) → ((es : List ℕ) → Follows b es → limit ≤ length es) → (more : ℕ → Outcome × ℕ)
      → (r : Round) → Right budget limit b (Follows b) 0 (left b + H) false r
      → ((n : ℕ) → limit < left b + H → ((es : List ℕ) → Follows b es → suc limit ≤ length es) → Meant b (more n).0)
      → Meant b (next_round limit more r).0
  next_meant limit b low more (found ds n) p on =
      (p.0, refl, λ es f. omega (arith, low es f, p.1), λ es f s. p.2 es f (omega (arith, p.1)))
  next_meant limit b low more (spent n) p on = low
  next_meant limit b low more (over true n) p on =
      on n (grind (arith, p.2 refl)) (λ es f. omega (arith, p.0 es f))
  next_meant limit b low more (over false n) p on = (p.1 refl).1

  pub rounds_meant : (x fuel limit : ℕ) (b : Bay) (n : ℕ) → Fine b → 0 < fuel → left b + H < limit + fuel
      → ((es : List ℕ) → Follows b es → limit ≤ length es)
      → Meant b (rounds h budget x fuel limit b n).0
  rounds_meant x zero limit b n fine pos enough low = absurd (omega arith)
  rounds_meant x (suc fuel) limit b n fine pos enough low =
      next_meant limit b low (rounds h budget x fuel (suc limit) b) _ (round_right h Fine left H L budget limit x b n fine)
      (λ m under lower. rounds_meant x fuel (suc limit) b m fine (omega arith) (omega arith) lower)

  -- fuel and spare depth never decide
  next_same : (limit : ℕ) (b : Bay) (more more' : ℕ → Outcome × ℕ) (r : Round) → Right budget limit b (Follows b) 0 (left b + H) false r
      → ((n : ℕ) → limit < left b + H → more n ≡ more' n) → next_round limit more r ≡ next_round limit more' r
  next_same limit b more more' (found ds n) p on = refl
  next_same limit b more more' (spent n) p on = refl
  next_same limit b more more' (over true n) p on = on n (grind (arith, p.2 refl))
  next_same limit b more more' (over false n) p on = refl

  pub rounds_same : (x x' fuel fuel' limit : ℕ) (b : Bay) (n : ℕ) → Fine b → 0 < fuel → 0 < fuel' → left b + H < limit + fuel → left b + H < limit + fuel'
      → rounds h budget x fuel limit b n ≡ rounds h budget x' fuel' limit b n
  rounds_same x x' zero fuel' limit b n fine p q u v = absurd (omega arith)
  rounds_same x x' (suc fuel) zero limit b n fine p q u v = absurd (omega arith)
  rounds_same x x' (suc fuel) (suc fuel') limit b n fine p q u v =
      next_same limit b (rounds h budget x fuel (suc limit) b) (rounds h budget x' fuel' (suc limit) b) _ (round_right h Fine left H L budget limit x b n fine)
      (λ m under. rounds_same x x' fuel fuel' (suc limit) b m fine (omega arith) (omega arith) (omega arith) (omega arith))
      ∙ ap (next_round limit (rounds h budget x' fuel' (suc limit) b))
      (same_deep h budget limit (suc (limit + x)) (suc (limit + x')) 0 b false n (omega arith) (omega arith) (omega arith))

-- plans of one length are equal, or one is earlier
pub compared : (ds es : List ℕ) (b : Bay) → Follows b ds → Follows b es → length ds ≡ length es → (ds ≡ es) ⊎ (Earlier b ds es ⊎ Earlier b es ds)
compared [] [] b f k l = inl refl
compared [] (e ∷ es) b f k l = absurd (omega arith)
compared (d ∷ ds) [] b f k l = absurd (omega arith)
compared (d ∷ ds) (e ∷ es) b f k l =
    by (λ q. compared ds es (next b d) f.1 (subst (λ v. Follows (next b v) es) (sym q) k.1) (omega arith)) (sooner_total b d e f.0 k.0)
  where
    tails : (d ≡ e) → (ds ≡ es) ⊎ (Earlier (next b d) ds es ⊎ Earlier (next b d) es ds)
        → ((d ∷ ds) ≡ (e ∷ es)) ⊎ (Earlier b (d ∷ ds) (e ∷ es) ⊎ Earlier b (e ∷ es) (d ∷ ds))
    tails q (inl r) = inl (cc)
    tails q (inr (inl r)) = inr (inl (inr (q, r)))
    tails q (inr (inr r)) = inr (inr (inr (sym q, subst (λ v. Earlier (next b v) es ds) q r)))

    by : (d ≡ e → (ds ≡ es) ⊎ (Earlier (next b d) ds es ⊎ Earlier (next b d) es ds)) → (d ≡ e) ⊎ (Sooner b d e ⊎ Sooner b e d)
        → ((d ∷ ds) ≡ (e ∷ es)) ⊎ (Earlier b (d ∷ ds) (e ∷ es) ⊎ Earlier b (e ∷ es) (d ∷ ds))
    by on (inl q) = tails q (on q)
    by on (inr (inl q)) = inr (inl (inl q))
    by on (inr (inr q)) = inr (inr (inl q))

-- whatever found them, the fewest destinations are the same
pub same_plan : (b : Bay) (k l : ℕ) (ds es : List ℕ) → Meant b (fewest k ds) → Meant b (fewest l es) → ds ≡ es
same_plan b k l ds es p q =
    let le : k ≤ length es = p.2 es q.0 in
    let ge : l ≤ length ds = q.2 ds p.0 in
    let pk : length ds ≡ k = p.1 in
    let ql : length es ≡ l = q.1 in
    ⊎_elim (λ e. e) (⊎_elim (λ e. absurd (q.3 ds p.0 (omega arith) e)) (λ e. absurd (p.3 es q.0 (omega arith) e)))
    (compared ds es b p.0 q.0 (omega arith))

-- a round is spent only at the budget, whatever the bound
module _ (h : Bay → ℕ) (budget limit : ℕ) where
  abbrev SpentRight : Round → Type 0
  SpentRight (found ds n) = Unit {0}
  SpentRight (spent n) = n ≡ budget
  SpentRight (over c n) = Unit {0}

  abbrev DeepSpent : ℕ → Type 0
  DeepSpent l = (g : ℕ) (b : Bay) (cut : Bool) (n : ℕ) → SpentRight (deep h budget limit l g b cut n)

  cut-spent : (t : Bool) (d : Bool → ℕ → Round) → ((c : Bool) (n : ℕ) → SpentRight (d c n)) → (c : Bool) (n : ℕ) → SpentRight (unless_cut t d c n)
  cut-spent true d p c n = tt
  cut-spent false d p c n = p c n

  on_spent : (d : ℕ) (rest : Bool → ℕ → Round) → ((c : Bool) (n : ℕ) → SpentRight (rest c n)) → (r : Round) → SpentRight r → SpentRight (onward d rest r)
  on_spent d rest p (found ds n) q = tt
  on_spent d rest p (spent n) q = q
  on_spent d rest p (over c n) q = p c n

  try_spent : (n : ℕ) (t : Bool) → eqb n budget ≡ t → (f : ℕ → Round) → ((m : ℕ) → SpentRight (f m)) → SpentRight (unless_spent t f n)
  try_spent n true e f p = eqb-true n budget e
  try_spent n false e f p = p (suc n)

  across-spent : (l : ℕ) → DeepSpent l → (g : ℕ) (b : Bay) (os : List ℕ) (cut : Bool) (n : ℕ) → SpentRight (across h budget limit (deep h budget limit l) g b os cut n)
  across-spent l ih g b [] cut n = tt
  across-spent l ih g b (d ∷ os) cut n =
      try_spent n (eqb n budget) refl _
      (λ m. on_spent d _ (across-spent l ih g b os) _ (cut-spent (ltb limit (suc g + h (next b d))) _ (ih (suc g) (next b d)) cut m))

  ways-spent : (l : ℕ) → DeepSpent l → (g : ℕ) (b : Bay) (o : Option (List ℕ)) (cut : Bool) (n : ℕ) → SpentRight (from_ways h budget limit (deep h budget limit l) g b o cut n)
  ways-spent l ih g b None cut n = tt
  ways-spent l ih g b (Some os) cut n = across-spent l ih g b os cut n

  pub deep-spent : (l : ℕ) → DeepSpent l
  deep-spent zero g b cut n = tt
  deep-spent (suc l) g b cut n = ways-spent l (deep-spent l) g b (ways b) cut n

module _ (h : Bay → ℕ) (budget : ℕ) where
  abbrev pub OnBudget : Outcome → ℕ → Type 0
  OnBudget (fewest k ds) t = Unit {0}
  OnBudget (at_least k) t = t ≡ budget
  OnBudget no_way t = Unit {0}

  abbrev AtBudget : Outcome × ℕ → Type 0
  AtBudget r = OnBudget r.0 r.1

  next-spent : (limit : ℕ) (more : ℕ → Outcome × ℕ) → ((n : ℕ) → AtBudget (more n)) → (r : Round) → SpentRight h budget limit r → AtBudget (next_round limit more r)
  next-spent limit more p (found ds n) q = tt
  next-spent limit more p (spent n) q = q
  next-spent limit more p (over true n) q = p n
  next-spent limit more p (over false n) q = tt

  pub rounds-spent : (x fuel limit : ℕ) (b : Bay) (n : ℕ) → AtBudget (rounds h budget x fuel limit b n)
  rounds-spent x zero limit b n = tt
  rounds-spent x (suc fuel) limit b n =
      next-spent limit (rounds h budget x fuel (suc limit) b) (rounds-spent x fuel (suc limit) b) _ (deep-spent h budget limit (suc (limit + x)) 0 b false n)

-- a round that cut something had a limit below what is ever needed
pub cut_below : (h : Bay → ℕ) (Fine : Bay → Type 0) (left : Bay → ℕ) (H : ℕ) (L : Laws h Fine left H) (budget limit x : ℕ) (b : Bay) (n m : ℕ)
    → Fine b → deep h budget limit (suc (limit + x)) 0 b false n ≡ over true m → limit < left b + H
cut_below h Fine left H L budget limit x b n m fine e =
    let r : Right budget limit b (Follows b) 0 (left b + H) false (over true m) = rw e at (round_right h Fine left H L budget limit x b n fine) in
    grind (arith, r.2 refl)
