-- The steps of one seat: what each makes of the rule, and what stays true of the other seats.
use Rattle.std.proofs.Common.{◌≡◌, ◌≢◌, ℕ, false, List, length, get_or, set, ◌∙◌, arith, length-set, ◌%◌, ◌^◌, [], ◌++◌, sym, refl, ap, subst, get_or-set_same}
use Rattle.std.proofs.Common.{get_or-set_other, ◌+◌, ◌≤◌, true, ◌<◌, Some, ◌∷◌, length-append}
use Rattle.std.proofs.lemmas.List.{append-nil}
use Rattle.std.proofs.lemmas.List.Elements.{All-append}
use Rattle.atomic_table.proofs.Lists.{at_set, set_else, set_here, one_turn}
use Rattle.atomic_table.specs.Table.{State, Me, step, keeps, Allows, takes, gives}
use lib.ListN.{get_elem?}
use mathlib.Core.Logic.{dite}
use mathlib.Core.Option.{some, none}
use native.Mathlib.Decide.{ℕ_discrete}
use Rattle.turn_cell.specs.History.{entries_of, Makes}
use Rattle.turn_cell.specs.Rule.{callers_in, tickets, is_out, Knows, NoneOut, Orderly, Fits, Held, IsHome}
use Rattle.turn_cell.specs.Steps.{known, seeing, looked, rang, drew, ticket_of, awaited, noted, having, served, Carries}
use Rattle.turn_cell.specs.declared.desk.Desk.{Desk}
use Rattle.turn_cell.specs.declared.desk.Note.{Note}
use Rattle.turn_cell.specs.declared.entry.Entry.{Entry}
use Rattle.turn_cell.specs.declared.view.Known.{Known}
use Rattle.turn_cell.specs.declared.view.View.{View}
use Rattle.turn_cell.specs.declared.view.View.TheVariants.{Idle, Waiting, Holding, Maker, Keeper}
use Rattle.turn_cell.proofs.Lists.{prefix_longer, own_grows, others_stay, leads_on, at_one, sum_at, at_inside, sum_few, all_one, put, put_here, put_else}
use Rattle.turn_cell.proofs.Lists.{next_word}

-- ## What stays true of the other seats when one of them makes a step, and a step that changes neither the history nor
-- who holds what.

module _ {M C R : Type 0} where
  pub seats_stay : (K : ℕ → View M C R → Type 0) (vs : List (View M C R)) (me : ℕ) (w : View M C R) → K me w → ((j : ℕ) (d : View M C R) → j ≢ me → get_elem? vs j ≡ some d → K j d)
      → (j : ℕ) (d : View M C R) → get_elem? (set vs me w) j ≡ some d → K j d
  seats_stay x0 vs me w mine others j d e = grind (arith, at_set)

  -- a seat that has not the turn may change, and none has it still
  pub none_out_before : (vs : List (View M C R)) (me : ℕ) (v w : View M C R) → get_elem? vs me ≡ some v → is_out v ≡ false → NoneOut (set vs me w) → NoneOut vs
  none_out_before vs me v w at out no_one j u here = grind (arith, at_one, set_else)

module _ {M C R : Type 0} (steps : M → ℕ → C → R → M → Type 0) (opening : M) (seats : ℕ) where
  pub quiet : (s : State (Desk M C R) (View M C R)) (r : Orderly steps opening seats s) (me : ℕ) (v w : View M C R) (words' : List ℕ) → get_elem? s.views me ≡ some v
      → get_or words' 0 0 ≡ get_or s.words 0 0 → get_or words' 1 0 ≡ get_or s.words 1 0 → length words' ≡ length s.words
      → tickets w ≡ tickets v → callers_in w ≡ callers_in v → is_out v ≡ false → Knows r.log r.now r.drawn r.made r.holder r.owner me w
      → Orderly steps opening seats record { words = words'; homes = s.homes; views = set s.views me w }
  quiet s r me v w words' at zeroth first long as_many as_much out knows = record {
    log = r.log;
    now = r.now;
    drawn = r.drawn;
    made = r.made;
    holder = r.holder;
    owner = r.owner;
    history = r.history;
    callers = r.callers;
    serving = zeroth ∙ r.serving;
    ticket = first ∙ r.ticket;
    held = omega (arith, r.held, sum_at tickets s.views me v w at);
    each = seats_stay (Knows r.log r.now r.drawn r.made r.holder r.owner) s.views me w knows (λ j d _. r.each j d);
    home = λ no_one. r.home (none_out_before s.views me v w at out no_one);
    given = omega (arith, r.given, sum_at callers_in s.views me v w at);
    many = length-set s.views me w ∙ r.many;
    few = r.few;
    wide = omega (arith, r.wide);
    deep = r.deep;
  }

-- ## A caller looks at the history.

module _ {M C R : Type 0} (steps : M → ℕ → C → R → M → Type 0) (opening : M) (seats : ℕ) where
  pub looks : (slots id : ℕ) (me : Me (Desk M C R) (View M C R)) → me.0 ≡ Idle (known me.0) → Allows (Orderly steps opening seats) slots id me 0 (λ n. n) (looked (step slots 0 0 0 none) me)
  looks slots id me is s r _ at _ =
      let k : Known C R = known me.0 in
      let x : ℕ = get_or s.words 0 0 in
      let f : Fits r.log r.made r.owner id k = subst (Knows r.log r.now r.drawn r.made r.holder r.owner id) is (r.each id me.0 at) in
      let rest : List (Entry C R) = f.seen.0 in
      let all : k.seen ++ rest ≡ r.log = f.seen.1 in
      let w : View M C R = Idle (seeing k rest) in
      let wide = r.wide in (
        w,
        keeps,
        tt,
        quiet steps opening seats s r id me.0 w (set s.words 0 x) at (get_or-set_same s.words 0 x 0 (omega arith)) (get_or-set_other s.words 0 1 x 0 (λ e. omega arith)) (length-set s.words 0 x)
            (sym (ap tickets is)) (sym (ap callers_in is)) (ap is_out is)
            record { seen = ([], append-nil (k.seen ++ rest) ∙ all); mine = f.mine; made_is = f.made_is; owner_is = f.owner_is },
        (rest, refl, ap (entries_of k.number) all ∙ f.mine, r.serving ∙ ap (λ (l : List (Entry C R)). length l % 2 ^ 64) (sym all)),
      )

-- ## A bell rings, which changes nothing of the rule.

module _ {M C R : Type 0} (steps : M → ℕ → C → R → M → Type 0) (opening : M) (seats : ℕ) where
  pub rings : (slots id : ℕ) (me : Me (Desk M C R) (View M C R)) (bell : ℕ) → 2 ≤ bell → is_out me.0 ≡ false
      → Allows (Orderly steps opening seats) slots id me bell (λ n. (n + 1) % 2 ^ 64) (rang (step slots bell 1 0 none) me)
  rings slots id me bell far out s r _ at _ = let y : ℕ = (get_or s.words bell 0 + 1) % 2 ^ 64 in (
    me.0,
    keeps,
    tt,
    quiet steps opening seats s r id me.0 me.0 (set s.words bell y) at (get_or-set_other s.words bell 0 y 0 (λ e. omega arith))
        (get_or-set_other s.words bell 1 y 0 (λ e. omega arith)) (length-set s.words bell y)
        refl refl out (r.each id me.0 at),
    refl,
  )

-- ## A caller draws the next ticket.

held_on : (served drawn : ℕ) (holder : ℕ → ℕ) (me seat t : ℕ) → Held served drawn holder seat t → Held served (drawn + 1) (put holder drawn me) seat t
held_on served drawn holder me seat t h = grind (arith, put_else)

module _ {M C R : Type 0} (log : List (Entry C R)) (now : M) (drawn made : ℕ) (holder owner : ℕ → ℕ) (me seat : ℕ) where
  others : (v : View M C R) → Knows log now drawn made holder owner seat v → Knows log now (drawn + 1) made (put holder drawn me) owner seat v
  others (Waiting kn t) k = (k.0, held_on (length log) drawn holder me seat t k.1)
  others (Holding kn t m) k = (k.0, held_on (length log) drawn holder me seat t k.1, k.2, k.3, k.4)
  others _ k = k

module _ {M C R : Type 0} (steps : M → ℕ → C → R → M → Type 0) (opening : M) (seats : ℕ) where
  pub draws : (slots id : ℕ) (me : Me (Desk M C R) (View M C R)) → me.0 ≡ Idle (known me.0)
      → Allows (Orderly steps opening seats) slots id me 1 (λ n. (n + 1) % 2 ^ 64) (drew (step slots 1 1 0 none) me)
  draws slots id me is s r _ at _ =
      let k : Known C R = known me.0 in
      let y : ℕ = (get_or s.words 1 0 + 1) % 2 ^ 64 in
      let f : Fits r.log r.made r.owner id k = subst (Knows r.log r.now r.drawn r.made r.holder r.owner id) is (r.each id me.0 at) in
      let w : View M C R = Waiting k r.drawn in
      let wide = r.wide in
      let sum = r.held in (
        w,
        keeps,
        tt,
        record {
          log = r.log;
          now = r.now;
          drawn = r.drawn + 1;
          made = r.made;
          holder = put r.holder r.drawn id;
          owner = r.owner;
          history = r.history;
          callers = r.callers;
          serving = get_or-set_other s.words 1 0 y 0 (λ e. omega arith) ∙ r.serving;
          ticket = get_or-set_same s.words 1 y 0 (omega arith) ∙ (ap (λ (z : ℕ). (z + 1) % 2 ^ 64) r.ticket ∙ next_word r.drawn);
          held = omega (arith, r.held, sum_at tickets s.views id me.0 w at, ap tickets is);
          each = seats_stay (Knows r.log r.now (r.drawn + 1) r.made (put r.holder r.drawn id) r.owner) s.views id w
              (f, record { unserved = omega arith; drawn_is = omega arith; holder_is = put_here r.holder r.drawn id })
              (λ j d _ here. others r.log r.now r.drawn r.made r.holder r.owner id j d (r.each j d here));
          home = λ no_one. r.home (none_out_before s.views id me.0 w at (ap is_out is) no_one);
          given = omega (arith, r.given, sum_at callers_in s.views id me.0 w at, ap callers_in is);
          many = length-set s.views id w ∙ r.many;
          few = r.few;
          wide = omega (arith, length-set s.words 1 y);
          deep = r.deep;
        },
        (r.drawn, refl, r.ticket),
      )

-- ## A caller that holds a ticket finds it served, and takes the machine; or finds another one.

not_so : true ≡ false → ⊥
not_so e = cc

few_tickets : {M C R : Type 0} (v : View M C R) → tickets v ≤ 1
few_tickets v = grind arith

module _ {M C R : Type 0} (log : List (Entry C R)) (now : M) (drawn made : ℕ) (holder owner : ℕ → ℕ) (seat : ℕ) where
  -- only the holder of the ticket that is served has the turn
  not_out : (v : View M C R) → Knows log now drawn made holder owner seat v → holder (length log) ≢ seat → is_out v ≡ false
  not_out v k other = grind arith

module _ {M C R : Type 0} (steps : M → ℕ → C → R → M → Type 0) (opening : M) (seats : ℕ) where
  served_is : (s : State (Desk M C R) (View M C R)) (r : Orderly steps opening seats s) (id t : ℕ) → Held (length r.log) r.drawn r.holder id t → get_or s.words 0 0 ≡ t % 2 ^ 64 → length r.log ≡ t
  served_is s r id t h hit = grind (arith, sum_few, few_tickets, one_turn)

  pub awaits : (slots id : ℕ) (me : Me (Desk M C R) (View M C R)) → me.0 ≡ Waiting (known me.0) (ticket_of me.0)
      → Allows (Orderly steps opening seats) slots id me 0 (λ n. n) (awaited (step slots 0 0 0 none) me)
  awaits slots id me is s r _ at _ =
      let k : Known C R = known me.0 in
      let t : ℕ = ticket_of me.0 in
      let x : ℕ = get_or s.words 0 0 in
      let wide = r.wide in
      let zeroth : get_or (set s.words 0 x) 0 0 ≡ x = get_or-set_same s.words 0 x 0 (omega arith) in
      let first : get_or (set s.words 0 x) 1 0 ≡ get_or s.words 1 0 = get_or-set_other s.words 0 1 x 0 (λ e. omega arith) in
      let knows : Fits r.log r.made r.owner id k × Held (length r.log) r.drawn r.holder id t = subst (Knows r.log r.now r.drawn r.made r.holder r.owner id) is (r.each id me.0 at) in
      dite (ℕ_discrete x (t % 2 ^ 64))
      (λ hit.
      let now_served : length r.log ≡ t = served_is s r id t knows.1 hit in
      let mine : r.holder (length r.log) ≡ id = ap r.holder now_served ∙ knows.1.holder_is in
      let no_one : NoneOut s.views = λ j u here. dite (ℕ_discrete j id)
      (λ e. ap is_out (at_one s.views id u me.0 (subst (λ (z : ℕ). get_elem? s.views z ≡ some u) e here) at ∙ is))
      (λ other. not_out r.log r.now r.drawn r.made r.holder r.owner j u (r.each j u here) (λ e. other (sym e ∙ mine))) in
      let h = r.home no_one in
      let d : Desk M C R = h.desk in
      let rest : List (Entry C R) = knows.0.seen.0 in
      let all : k.seen ++ rest ≡ r.log = knows.0.seen.1 in
      let w : View M C R = Holding (seeing k rest) t d.machine in (
        w,
        takes 0 d,
        h.here,
        record {
          log = r.log;
          now = r.now;
          drawn = r.drawn;
          made = r.made;
          holder = r.holder;
          owner = r.owner;
          history = r.history;
          callers = r.callers;
          serving = zeroth ∙ r.serving;
          ticket = first ∙ r.ticket;
          held = omega (arith, r.held, sum_at tickets s.views id me.0 w at, ap tickets is);
          each = seats_stay (Knows r.log r.now r.drawn r.made r.holder r.owner) s.views id w
              (record { seen = ([], append-nil (k.seen ++ rest) ∙ all); mine = knows.0.mine; made_is = knows.0.made_is; owner_is = knows.0.owner_is }, knows.1, sym now_served, h.state, all)
              (λ j u _ here. r.each j u here);
          home = λ gone. absurd {A = IsHome r.now (set s.homes 0 none)} (not_so (gone id w (set_here s.views id w (at_inside s.views id me.0 at))));
          given = omega (arith, r.given, sum_at callers_in s.views id me.0 w at, ap callers_in is);
          many = length-set s.views id w ∙ r.many;
          few = r.few;
          wide = omega (arith, length-set s.words 0 x);
          deep = length-set s.homes 0 none ∙ r.deep;
        },
        ((λ _. (rest, d, refl)), λ miss. absurd (miss hit)),
      ))
      (λ miss. (
        me.0,
        keeps,
        tt,
        quiet steps opening seats s r id me.0 me.0 (set s.words 0 x) at zeroth first (length-set s.words 0 x) refl refl (ap is_out is) (r.each id me.0 at),
        ((λ hit. absurd (miss hit)), λ _. refl),
      ))

-- ## The machine comes home, the next ticket is served, and the history has one more entry.

module _ {C R : Type 0} (log : List (Entry C R)) (made : ℕ) (owner : ℕ → ℕ) (e : Entry C R) (me seat : ℕ) (other : seat ≢ me) (mine : owner e.caller ≡ me) where
  fits_on : (k : Known C R) → Fits log made owner seat k → Fits (log ++ e ∷ []) made owner seat k
  fits_on k f = grind (arith, prefix_longer, others_stay)

module _ {M C R : Type 0} (log : List (Entry C R)) (now after : M) (drawn made : ℕ) (holder owner : ℕ → ℕ) (e : Entry C R) (me seat : ℕ) (other : seat ≢ me) (mine : owner e.caller ≡ me) (turn : holder (length log) ≡ me) where
  others_served : (v : View M C R) → Knows log now drawn made holder owner seat v → Knows (log ++ e ∷ []) after drawn made holder owner seat v
  others_served (Maker n) k = k
  others_served (Idle kn) k = fits_on log made owner e me seat other mine kn k
  others_served (Waiting kn t) k =
      let later : length log ≢ t = λ is. other (sym k.1.holder_is ∙ (ap holder (sym is) ∙ turn)) in
      let a = k.1.unserved in (
        fits_on log made owner e me seat other mine kn k.0,
        record { unserved = omega (arith, length-append log (e ∷ [])); drawn_is = k.1.drawn_is; holder_is = k.1.holder_is },
      )
  others_served (Holding kn t m) k = absurd (other (sym k.1.holder_is ∙ (ap holder k.2 ∙ turn)))
  others_served (Keeper ks) k = λ i d l. fits_on log made owner e me seat other mine _ (k i d l)

module _ {M C R : Type 0} (steps : M → ℕ → C → R → M → Type 0) (opening : M) (seats : ℕ) where
  pub serves : (slots id : ℕ) (k : Known C R) (t : ℕ) (before : M) (d : Desk M C R) (note : Note C R) → d.note ≡ Some note → Makes steps before (noted k.number note) d.machine
      → Allows (Orderly steps opening seats) slots id (Holding k t before, (0, d) ∷ []) 0 (λ n. (n + 1) % 2 ^ 64) (served (step slots 0 1 0 none) (Holding k t before, (0, d) ∷ []))
  serves slots id k t before d note is makes s r _ at _ =
      let e : Entry C R = noted k.number note in
      let v : View M C R = Holding k t before in
      let w : View M C R = Idle (having k e) in
      let y : ℕ = (get_or s.words 0 0 + 1) % 2 ^ 64 in
      let knows : Fits r.log r.made r.owner id k × Held (length r.log) r.drawn r.holder id t × (t ≡ length r.log) × (before ≡ r.now) × (k.seen ≡ r.log) = r.each id v at in
      let f = knows.0 in
      let wide = r.wide in
      let deep = r.deep in
      let own : entries_of k.number (r.log ++ e ∷ []) ≡ k.mine ++ e ∷ [] = own_grows k.number r.log e refl ∙ ap (λ l. l ++ e ∷ []) f.mine in (
        w,
        gives,
        tt,
        record {
          log = r.log ++ e ∷ [];
          now = d.machine;
          drawn = r.drawn;
          made = r.made;
          holder = r.holder;
          owner = r.owner;
          history = leads_on steps opening r.log r.now e d.machine r.history (subst (λ (z : M). Makes steps z e d.machine) knows.3 makes);
          callers = All-append (λ (x : Entry C R). x.caller < r.made) r.log (e ∷ []) r.callers (all_one (λ (x : Entry C R). x.caller < r.made) e f.made_is);
          serving = get_or-set_same s.words 0 y 0 (omega arith)
              ∙ (ap (λ (z : ℕ). (z + 1) % 2 ^ 64) r.serving ∙ (next_word (length r.log) ∙ ap (λ (n : ℕ). n % 2 ^ 64) (sym (length-append r.log (e ∷ [])))));
          ticket = get_or-set_other s.words 0 1 y 0 (λ i. omega arith) ∙ r.ticket;
          held = omega (arith, r.held, sum_at tickets s.views id v w at, length-append r.log (e ∷ []));
          each = seats_stay (Knows (r.log ++ e ∷ []) d.machine r.drawn r.made r.holder r.owner) s.views id w
              record { seen = ([], append-nil (k.seen ++ e ∷ []) ∙ ap (λ l. l ++ e ∷ []) knows.4); mine = own; made_is = f.made_is; owner_is = f.owner_is }
              (λ j u other here. others_served r.log r.now d.machine r.drawn r.made r.holder r.owner e id j other f.owner_is (ap r.holder (sym knows.2) ∙ knows.1.holder_is) u (r.each j u here));
          home = λ _. record { desk = d; here = set_here s.homes 0 (some d) (omega arith); state = refl };
          given = omega (arith, r.given, sum_at callers_in s.views id v w at);
          many = length-set s.views id w ∙ r.many;
          few = r.few;
          wide = omega (arith, length-set s.words 0 y);
          deep = length-set s.homes 0 (some d) ∙ r.deep;
        },
        λ d' note' carried is'.
            let desks : d ≡ d' = ap (λ (l : List (ℕ × Desk M C R)). (get_or l 0 (0, d)).1) carried in
            let notes : Some note ≡ Some note' = sym is ∙ (ap (λ (x : Desk M C R). x.note) desks ∙ is') in
            let same : note ≡ note' = cc in
            subst (λ (z : Note C R). (◌≡◌ {A = Me (Desk M C R) (View M C R)} (w, []) (Idle (having k (noted k.number z)), []))
            × (entries_of k.number (k.seen ++ noted k.number z ∷ []) ≡ k.mine ++ noted k.number z ∷ []) × (get_or s.words 0 0 ≡ length k.seen % 2 ^ 64))
            same
            (refl, ap (λ (l : List (Entry C R)). entries_of k.number (l ++ e ∷ [])) knows.4 ∙ own, r.serving ∙ ap (λ (l : List (Entry C R)). length l % 2 ^ 64) (sym knows.4)),
      )

  -- the same for a seat that carries the machine, with a note of the entry
  pub serves_carried : (slots id : ℕ) (me : Me (Desk M C R) (View M C R)) (e : Entry C R) → Carries steps me e
      → Allows (Orderly steps opening seats) slots id me 0 (λ n. (n + 1) % 2 ^ 64) (served (step slots 0 1 0 none) me)
  serves_carried slots id me e c =
      let makes : Makes steps c.before (noted (known me.0).number c.note) c.desk.machine = subst (λ (z : Entry C R). Makes steps c.before z c.desk.machine) (sym c.entry_is) c.makes in
      subst (λ (m : Me (Desk M C R) (View M C R)). Allows (Orderly steps opening seats) slots id m 0 (λ n. (n + 1) % 2 ^ 64) (served (step slots 0 1 0 none) m)) (sym c.holds)
      (serves slots id (known me.0) (ticket_of me.0) c.before c.desk c.note c.is_noted makes)
