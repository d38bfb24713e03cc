-- The table as it is made, callers that are made and taken in one after another, and the end, where one seat speaks for all.
use Rattle.std.proofs.Common.{◌≡◌, ◌≢◌, ℕ, ◌+◌, ◌<◌, List, [], ◌∷◌, ◌++◌, length, set, sym, refl, ap, ◌∙◌, subst, ⊎_elim, arith, length-set, length-append}
use Rattle.std.proofs.Common.{zero, suc, ◌≤◌, replicate, get_or, false, map, append_assoc}
use Rattle.std.proofs.lemmas.List.{map-append}
use Rattle.std.proofs.lemmas.List.Sums.{sum_by_push}
use Rattle.std.specs.List.{All}
use Rattle.atomic_table.proofs.Lists.{at_longer, set_else}
use Rattle.atomic_table.specs.Table.{Splits, opening, Joins, State, Final, Seen}
use lib.ListN.{get_elem?}
use mathlib.Core.Option.{some, some-injective, some-ne-none}
use Rattle.turn_cell.specs.History.{Leads, Ended}
use Rattle.turn_cell.specs.Rule.{callers_in, tickets, Fits, Knows, Orderly, is_out, knowns, NoneOut}
use Rattle.turn_cell.specs.Steps.{newcomer, known, one_more, made_by, taken_in, spent}
use Rattle.turn_cell.specs.declared.desk.Desk.{Desk}
use Rattle.turn_cell.specs.declared.entry.Entry.{Entry}
use Rattle.turn_cell.specs.declared.view.Known.{Known}
use Rattle.turn_cell.specs.declared.view.View.{View}
use Rattle.turn_cell.specs.declared.view.View.TheVariants.{Maker, Idle, Waiting, Holding, Keeper}
use Rattle.turn_cell.proofs.Lists.{none_yet, sum_at, at_end, all_one, at_one, sum_two, put, put_here, put_else, put_same}
use Rattle.turn_cell.proofs.SeatSteps.{seats_stay, none_out_before}

-- ## One more caller is made.

module _ {C R : Type 0} (log : List (Entry C R)) (made : ℕ) (owner : ℕ → ℕ) (place seat : ℕ) where
  fits_on : (k : Known C R) → Fits log made owner seat k → Fits log (made + 1) (put owner made place) seat k
  fits_on k f = grind (arith, put_else)

module _ {M C R : Type 0} (log : List (Entry C R)) (now : M) (drawn made : ℕ) (holder owner : ℕ → ℕ) (place seat : ℕ) (other : seat ≢ 0) where
  others : (v : View M C R) → Knows log now drawn made holder owner seat v → Knows log now drawn (made + 1) holder (put owner made place) seat v
  others (Maker n) k = absurd (other k.0)
  others (Idle kn) k = fits_on log made owner place seat kn k
  others (Waiting kn t) k = (fits_on log made owner place seat kn k.0, k.1)
  others (Holding kn t m) k = (fits_on log made owner place seat kn k.0, k.1, k.2, k.3, k.4)
  others (Keeper ks) k = λ i d l. fits_on log made owner place seat _ (k i d l)

module _ {M C R : Type 0} (steps : M → ℕ → C → R → M → Type 0) (opening : M) (seats : ℕ) where
  pub makes_caller : (id n : ℕ) → n < seats → Splits (Orderly {M = M} {C = C} {R = R} steps opening seats) id (Maker n) (Maker (n + 1)) (Idle (newcomer n))
  makes_caller id n room s r at =
      let knows : (id ≡ 0) × (n ≡ r.made) = r.each id (Maker n) at in
      let left : View M C R = Maker (r.made + 1) in
      let right : View M C R = Idle (newcomer r.made) in
      let vs : List (View M C R) = set s.views id left in
      let K : ℕ → View M C R → Type 0 = Knows r.log r.now r.drawn (r.made + 1) r.holder (put r.owner r.made (length vs)) in
      let sum = r.held in
      let count = r.given in
      let bound = r.few in
      let here : get_elem? s.views id ≡ some (Maker r.made) = at ∙ ap (λ (z : ℕ). some (Maker z)) knows.1 in
      subst (λ (z : ℕ). Orderly steps opening seats record { words = s.words; homes = s.homes; views = set s.views id (Maker (z + 1)) ++ Idle (newcomer z) ∷ [] }) (sym knows.1) record {
        log = r.log;
        now = r.now;
        drawn = r.drawn;
        made = r.made + 1;
        holder = r.holder;
        owner = put r.owner r.made (length vs);
        history = r.history;
        callers = λ i d l. let below = r.callers i d l in omega arith;
        serving = r.serving;
        ticket = r.ticket;
        held = omega (arith, r.held, sum_at tickets s.views id (Maker r.made) left here, sum_by_push tickets vs right);
        each = λ j u there. ⊎_elim
            (λ (a : get_elem? vs j ≡ some u). seats_stay K s.views id left (knows.0, refl)
            (λ i d other b. others r.log r.now r.drawn r.made r.holder r.owner (length vs) i (λ e. other (e ∙ sym knows.0)) d (r.each i d b)) j u a)
            (λ (t : (j ≡ length vs) × (right ≡ u)). subst (K j) t.1 record {
              seen = (r.log, refl);
              mine = none_yet r.made r.log r.callers;
              made_is = omega arith;
              owner_is = put_here r.owner r.made (length vs) ∙ sym t.0;
            })
            (at_end vs right u j there);
        home = λ no_one. r.home (none_out_before s.views id (Maker r.made) left here refl (λ j u a. no_one j u (at_longer vs (right ∷ []) j u a)));
        given = omega (arith, r.given, sum_at callers_in s.views id (Maker r.made) left here, sum_by_push callers_in vs right);
        many = omega (arith, r.many, length-append vs (right ∷ []), length-set s.views id left);
        few = (omega (arith, knows.1), bound.1);
        wide = r.wide;
        deep = r.deep;
      }

-- ## The table as it is made: an empty history, the machine at home, and no caller yet.

module _ {M C R : Type 0} (steps : M → ℕ → C → R → M → Type 0) (seats : ℕ) where
  pub opens : (words : List ℕ) (d : Desk M C R) → 2 ≤ length words → get_or words 0 0 ≡ 0 → get_or words 1 0 ≡ 0 → seats ≤ 256 → Orderly steps d.machine seats (opening words (d ∷ []) (Maker 0))
  opens words d wide zeroth first few = record {
    log = [];
    now = d.machine;
    drawn = 0;
    made = 0;
    holder = λ _. 0;
    owner = λ _. 0;
    history = refl;
    callers = λ i x l. absurd (omega arith);
    serving = zeroth;
    ticket = first;
    held = refl;
    each = only;
    home = λ _. record { desk = d; here = refl; state = refl };
    given = refl;
    many = refl;
    few = (omega arith, few);
    wide = wide;
    deep = refl;
  }
    where
      only : (i : ℕ) (v : View M C R) → get_elem? (Maker 0 ∷ []) i ≡ some v → Knows [] d.machine 0 0 (λ _. 0) (λ _. 0) i v
      only zero v e = subst (Knows [] d.machine 0 0 (λ _. 0) (λ _. 0) 0) (some-injective (Maker 0) v e) (refl, refl)
      only (suc i) v e = absurd (some-ne-none v (sym e))

  pub opens_with : (words : List ℕ) (slots : List (Desk M C R)) (d : Desk M C R) (m : M) → slots ≡ d ∷ [] → m ≡ d.machine → words ≡ replicate (seats + 2) 0
      → seats ≤ 256 → Orderly steps m seats (opening words slots (Maker 0))
  opens_with words slots d m one is blank few = grind (arith, opens)

-- ## A caller is taken in by another, which speaks for both from then on.

module _ {M C R : Type 0} (log : List (Entry C R)) (now : M) (drawn made : ℕ) (holder owner : ℕ → ℕ) (seat : ℕ) where
  -- all that a seat knows of callers fits
  pub all_fit : (v : View M C R) → Knows log now drawn made holder owner seat v → All (Fits log made owner seat) (knowns v)
  all_fit (Maker n) k = λ i d l. absurd (omega arith)
  all_fit (Idle kn) k = all_one (Fits log made owner seat) kn k
  all_fit (Waiting kn t) k = all_one (Fits log made owner seat) kn k.0
  all_fit (Holding kn t m) k = all_one (Fits log made owner seat) kn k.0
  all_fit (Keeper ks) k = k

module _ {C R : Type 0} (log : List (Entry C R)) (made : ℕ) (owner : ℕ → ℕ) (n me : ℕ) where
  fits_still : (k : Known C R) → Fits log made owner me k → Fits log made (put owner n me) me k
  fits_still k f = record { seen = f.seen; mine = f.mine; made_is = f.made_is; owner_is = put_same owner n me k.number f.owner_is }

  fits_else : (from seat : ℕ) → owner n ≡ from → seat ≢ from → (k : Known C R) → Fits log made owner seat k → Fits log made (put owner n me) seat k
  fits_else from seat was other k f = grind (arith, put_else)

module _ {M C R : Type 0} (log : List (Entry C R)) (now : M) (drawn made : ℕ) (holder owner : ℕ → ℕ) (n me from seat : ℕ) (was : owner n ≡ from) (other : seat ≢ from) where
  others_taken : (v : View M C R) → Knows log now drawn made holder owner seat v → Knows log now drawn made holder (put owner n me) seat v
  others_taken (Maker m) k = k
  others_taken (Idle kn) k = fits_else log made owner n me from seat was other kn k
  others_taken (Waiting kn t) k = (fits_else log made owner n me from seat was other kn k.0, k.1)
  others_taken (Holding kn t m) k = (fits_else log made owner n me from seat was other kn k.0, k.1, k.2, k.3, k.4)
  others_taken (Keeper ks) k = λ i d l. fits_else log made owner n me from seat was other _ (k i d l)

joined : {C R : Type 0} (log : List (Entry C R)) (made : ℕ) (owner : ℕ → ℕ) (me : ℕ) (k : Known C R) (ks : List (Known C R))
    → Fits log made (put owner k.number me) me k → All (Fits log made owner me) ks
    → All (Fits log made (put owner k.number me) me) (k ∷ ks)
joined log made owner me k ks one all zero d l = one
joined log made owner me k ks one all (suc i) d l = fits_still log made owner k.number me _ (all i d (omega arith))

module _ {M C R : Type 0} (steps : M → ℕ → C → R → M → Type 0) (opening : M) (seats : ℕ) where
  pub takes_in : (id : ℕ) (v : View M C R) (other : ℕ) (k : Known C R) → tickets v ≡ 0 → is_out v ≡ false
      → Joins (Orderly steps opening seats) id v other (Idle k) (Keeper (k ∷ knowns v)) (Keeper [])
  takes_in id v other k no_ticket home s r at apart there =
      let both : View M C R = Keeper (k ∷ knowns v) in
      let none : View M C R = Keeper [] in
      let vs : List (View M C R) = set s.views id both in
      let was : get_elem? s.views other ≡ some (Idle k) = sym (set_else s.views id other both apart) ∙ there in
      let f : Fits r.log r.made r.owner other k = r.each other (Idle k) was in
      let K : ℕ → View M C R → Type 0 = Knows r.log r.now r.drawn r.made r.holder (put r.owner k.number id) in
      let old : All (Fits r.log r.made r.owner id) (knowns v) = all_fit r.log r.now r.drawn r.made r.holder r.owner id v (r.each id v at) in
      let mine : All (Fits r.log r.made (put r.owner k.number id) id) (k ∷ knowns v) = joined r.log r.made r.owner id k (knowns v)
      record { seen = f.seen; mine = f.mine; made_is = f.made_is; owner_is = put_here r.owner k.number id } old in
      record {
        log = r.log;
        now = r.now;
        drawn = r.drawn;
        made = r.made;
        holder = r.holder;
        owner = put r.owner k.number id;
        history = r.history;
        callers = r.callers;
        serving = r.serving;
        ticket = r.ticket;
        held = omega (arith, r.held, sum_at tickets s.views id v both at, sum_at tickets vs other (Idle k) none there);
        each = seats_stay K vs other none (λ i d l. absurd (omega arith))
            (λ j u far here. seats_stay (λ (i : ℕ) (x : View M C R). i ≢ other → K i x) s.views id both (λ _. mine)
            (λ i x _ b away. others_taken r.log r.now r.drawn r.made r.holder r.owner k.number id other i f.owner_is away x (r.each i x b)) j u here far);
        home = λ no_one. r.home (none_out_before s.views id v both at home (none_out_before vs other (Idle k) none there refl no_one));
        given = omega (arith, r.given, sum_at callers_in s.views id v both at, sum_at callers_in vs other (Idle k) none there);
        many = length-set vs other none ∙ (length-set s.views id both ∙ r.many);
        few = r.few;
        wide = r.wide;
        deep = r.deep;
      }

-- ## Callers are made one after another, and taken in one after another.

module _ {M C R : Type 0} (steps : M → ℕ → C → R → M → Type 0) (opening : M) (seats : ℕ) where
  pub makes_one : (id n : ℕ) (v : View M C R) → v ≡ Maker n → n < seats → Splits (Orderly steps opening seats) id v (one_more v) (made_by v)
  makes_one id n v is room = subst (λ (z : View M C R). Splits (Orderly steps opening seats) id z (one_more z) (made_by z)) (sym is) (makes_caller steps opening seats id n room)

  pub takes_one : (id : ℕ) (v : View M C R) (other : ℕ) (w : View M C R) → tickets v ≡ 0 → is_out v ≡ false → w ≡ Idle (known w) → Joins (Orderly steps opening seats) id v other w (taken_in v w) spent
  takes_one id v other w none home is = subst (λ (z : View M C R). Joins (Orderly steps opening seats) id v other z (taken_in v z) spent) (sym is)
      (takes_in steps opening seats id v other (known w) none home)

module _ {A M C R : Type 0} (standing : A → Known C R) where
  -- the callers that are left, and those for which the seat speaks, are all
  pub speaks_for : (items rest : List A) (c : A) (v w : View M C R) (all : List (Known C R)) → items ≡ rest ++ c ∷ [] → w ≡ Idle (standing c) → map standing items ++ knowns v ≡ all
      → map standing rest ++ knowns (taken_in v w) ≡ all
  speaks_for items rest c v w all cut is was =
      ap (λ (z : View M C R). map standing rest ++ (knowns z ++ knowns v)) is
      ∙ (sym (append_assoc (map standing rest) (standing c ∷ []) (knowns v))
      ∙ (ap (λ (l : List (Known C R)). l ++ knowns v) (sym (map-append standing rest (c ∷ [])) ∙ ap (map standing) (sym cut)) ∙ was))

  -- the first that is taken speaks for itself
  pub speaks_first : (items rest : List A) (c : A) (w : View M C R) → items ≡ rest ++ c ∷ [] → w ≡ Idle (standing c) → map standing rest ++ knowns w ≡ map standing items
  speaks_first items rest c w cut is = grind (arith, map-append)

-- ## One seat speaks for all callers: the machine is at home, in the state after the history.

-- a seat that speaks for nobody has not the turn
empty_handed : {M C R : Type 0} (v : View M C R) → callers_in v ≡ 0 → is_out v ≡ false
empty_handed v e = grind arith

module _ {M C R : Type 0} (steps : M → ℕ → C → R → M → Type 0) (opening : M) (seats : ℕ) where
  all_home : (s : State (Desk M C R) (View M C R)) (r : Orderly steps opening seats s) (id : ℕ) (v : View M C R) → get_elem? s.views id ≡ some v
      → callers_in v ≡ seats → is_out v ≡ false → NoneOut s.views
  all_home s r id v at all out j u here = grind (arith, at_one, sum_two, empty_handed)

  pub closes : (id : ℕ) (v : View M C R) (words : List ℕ) (slots : List (Desk M C R)) → callers_in v ≡ seats → is_out v ≡ false → Final (Seen (Orderly steps opening seats) id v) words slots
      → (d : Desk M C R) × (get_elem? slots 0 ≡ some d) × Ended steps opening seats (knowns v) d.machine
  closes id v words slots all out final =
      let s = final.0 in
      let r : Orderly steps opening seats s = final.1.0 in
      let at : get_elem? s.views id ≡ some v = final.1.1 in
      let h = r.home (all_home s r id v at all out) in
      let few = r.few in
      let fit = all_fit r.log r.now r.drawn r.made r.holder r.owner id v (r.each id v at) in (
        h.desk,
        final.4 0 h.desk h.here,
        record {
          history = r.log;
          leads = subst (Leads steps opening r.log) (sym h.state) r.history;
          numbered = λ i d l. let below = r.callers i d l in omega arith;
          each = λ i d l. let f = fit i d l in (f.seen, f.mine);
        },
      )

  pub closes_with : (id : ℕ) (v : View M C R) (words : List ℕ) (slots : List (Desk M C R)) (all : List (Known C R)) (n : ℕ) (desk : Desk M C R) (last : M)
      → seats ≡ n → length all ≡ n → knowns v ≡ all → is_out v ≡ false → Final (Seen (Orderly steps opening seats) id v) words slots → get_elem? slots 0 ≡ some desk → last ≡ desk.machine
      → Ended steps opening n all last
  closes_with id v words slots all n desk last counted long speaks out final here is =
      let e = closes id v words slots (ap length speaks ∙ (long ∙ sym counted)) out final in
      let same : e.0 ≡ desk = at_one slots 0 e.0 desk e.1 here in
      let ended : Ended steps opening seats (knowns v) e.0.machine = e.2 in
      let at_last : Ended steps opening seats (knowns v) last = subst (λ (m : M). Ended steps opening seats (knowns v) m) (ap (λ (x : Desk M C R). x.machine) same ∙ sym is) ended in
      let at_all : Ended steps opening seats all last = subst (λ (l : List (Known C R)). Ended steps opening seats l last) speaks at_last in
      subst (λ (z : ℕ). Ended steps opening z all last) counted at_all
