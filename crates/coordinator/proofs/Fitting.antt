-- What something said does to what is kept of a log; the limits that follow from what is kept; and what a call tells of both.
use Rattle.std.proofs.Common.{◌≡◌, ℕ, List, [], ◌∷◌, ◌++◌, Some, refl, Bool, true, false, cond, ap, sym, ◌∙◌, subst, filter, map, append-nil, arith, ◌≤◌}
use Rattle.std.proofs.Common.{Option, None}
use Rattle.std.proofs.lemmas.Bool.{and_parts, eqb-true}
use Rattle.std.proofs.lemmas.Grind.{common_steps}
use Rattle.std.proofs.lemmas.List.Elements.{filter_agree, filter-append}
use Rattle.std.specs.Option.{ForSome}
use Rattle.std.specs.Prelude.{◌&&◌, ◌||◌, not, ◌==◌, IfSome, option_map, unwrap_or, is_none, is_some}
use Rattle.tick_limits.specs.Time.{answer_limit, hold_limit}
use Rattle.writer_state.specs.WriterState.{is_ok}
use Rattle.writer_state.specs.declared.said.Said.{Said}
use Rattle.set_agenda.specs.Advance.{advance, others}
use Rattle.set_agenda.specs.Agenda.{Agenda, Entry, HoldsOwn, Open, all_say, at_place, groups_left, has_frozen, has_thawed, is_among, is_freeze, is_frozen}
use Rattle.set_agenda.specs.Agenda.{is_snapshot, is_thaw, is_working, open_place, same_place, waits_now, open_group, is_held, is_held_now}
use Rattle.set_agenda.specs.Limits.{first_hold, first_time, is_hold, is_prepare_snapshot, last_time, Running, answer_runs, freeze_opened_at, freeze_runs}
use Rattle.set_agenda.specs.Limits.{hold_running, hold_runs, opened_at, running_at, running_limits, runs_if, spent_of, ticks_to_spend}
use Rattle.set_agenda.specs.WriterSet.{is_nil, writers}
use Rattle.set_agenda.specs.declared.group.Group.{Group}
use Rattle.set_agenda.specs.declared.limit.Limit.{Limit}
use Rattle.set_agenda.specs.declared.limit.Limit.TheVariants.{Hold as HoldLimit, Freeze as FreezeLimit, Answer as AnswerLimit}
use Rattle.set_agenda.specs.declared.place.Place.{Place}
use Rattle.set_agenda.proofs.GroupsLeft.{any-among, any-append, any-map, groups_left-all_say}
use Rattle.set_agenda.proofs.Held.{own-said, held-log}
use Rattle.set_agenda.proofs.WriterSets.{among-writers, or-false, others-writers, writers-agree, writers-none}
use Rattle.coordinator.specs.Effects.{newly}
use Rattle.coordinator.specs.KeptCourse.{IsBy, FitsRun}
use Rattle.coordinator.specs.RunningAgenda.{NoneAfter, kept_limits, running_since, runs_since, since_at, sooner, spent_since, until_since, Fits, entered}
use Rattle.coordinator.specs.RunningAgenda.{freeze_opened_after, held_after, opened_after, taken_if, place_opened_at}
use Rattle.coordinator.specs.declared.running_agenda.RunningAgenda.{RunningAgenda}

-- ## What something said in the open group does to what is kept of a log.

-- ## times

last_time-said : (t : ℕ) (es : List Entry) (p : Place) (said : Said) (now : ℕ) (ws : List ℕ) → is_nil ws ≡ false → last_time t (es ++ map (at_place p said now) ws) ≡ now
last_time-said t [] p said now [] h = cc
last_time-said t [] p said now (w ∷ []) h = refl
last_time-said t [] p said now (w ∷ v ∷ ws) h = last_time-said now [] p said now (v ∷ ws) refl
last_time-said t (x ∷ es) p said now ws h = last_time-said x.time es p said now ws h

filter-said : (f : Entry → Bool) (p : Place) (said : Said) (now : ℕ) (b : Bool) → ((w : ℕ) → f (at_place p said now w) ≡ b) → (ws : List ℕ) → filter f (map (at_place p said now) ws) ≡ cond b (map (at_place p said now) ws) []
filter-said f p said now true h [] = refl
filter-said f p said now false h [] = refl
filter-said f p said now true h (w ∷ ws) = rw (h w) (ap (λ es. at_place p said now w ∷ es) (filter-said f p said now true h ws))
filter-said f p said now false h (w ∷ ws) = rw (h w) (filter-said f p said now false h ws)

-- the last entry that passes, after more that pass or do not
last-passing : (f : Entry → Bool) (t : ℕ) (log : List Entry) (p : Place) (said : Said) (now : ℕ) (b : Bool) → ((w : ℕ) → f (at_place p said now w) ≡ b) → (ws : List ℕ) → is_nil ws ≡ false
    → last_time t (filter f (log ++ map (at_place p said now) ws)) ≡ cond b now (last_time t (filter f log))
last-passing f t log p said now true h ws n = ap (last_time t) (filter-append f log (map (at_place p said now) ws) ∙ ap (λ es. filter f log ++ es) (filter-said f p said now true h ws)) ∙ last_time-said t (filter f log) p said now ws n
last-passing f t log p said now false h ws n = ap (last_time t) (filter-append f log (map (at_place p said now) ws) ∙ ap (λ es. filter f log ++ es) (filter-said f p said now false h ws) ∙ append-nil (filter f log))

same_place-swap : (x p q : Place) → same_place p q ≡ true → same_place x q ≡ same_place x p
same_place-swap x p q e = grind (arith, and_parts, eqb-true)

opened-said : (t : ℕ) (log : List Entry) (p : Place) (said : Said) (now : ℕ) (ws : List ℕ) → is_nil ws ≡ false → (q : Place) (b : Bool) → same_place p q ≡ b
    → cond b (last_time t (filter (λ x. not (same_place x.place p)) log)) now ≡ last_time t (filter (λ x. not (same_place x.place q)) (log ++ map (at_place p said now) ws))
opened-said t log p said now ws n q true h = ap (last_time t) (filter_agree _ (λ x. not (same_place x.place q)) (λ x. ap not (sym (same_place-swap x.place p q h))) log) ∙ sym (last-passing (λ x. not (same_place x.place q)) t log p said now false (λ w. ap not h) ws n)
opened-said t log p said now ws n q false h = sym (last-passing (λ x. not (same_place x.place q)) t log p said now true (λ w. ap not h) ws n)

held-more : (p : Place) (said : Said) (now : ℕ) (ws : List ℕ) → is_nil ws ≡ false → (es : List Entry) → held_after p (first_time es) now ≡ first_time (es ++ cond (is_hold p.group) (map (at_place p said now) ws) [])
held-more p said now ws n es = grind arith

held-said : (log : List Entry) (p : Place) (said : Said) (now : ℕ) (ws : List ℕ) → is_nil ws ≡ false → held_after p (first_hold log) now ≡ first_hold (log ++ map (at_place p said now) ws)
held-said log p said now ws n =
    held-more p said now ws n (filter (λ (e : Entry). is_hold e.place.group) log)
    ∙ ap first_time (sym (filter-append (λ (e : Entry). is_hold e.place.group) log (map (at_place p said now) ws) ∙ ap (λ es. filter (λ (e : Entry). is_hold e.place.group) log ++ es) (filter-said (λ (e : Entry). is_hold e.place.group) p said now (is_hold p.group) (λ w. refl) ws)))

-- ## frozen and thawed

-- these enter the set, where it is so
abbrev pub Enters : List ℕ → List ℕ → Bool → List ℕ → Type 0
Enters old new really ws = (q : ℕ → Bool) → old ≡ writers q → new ≡ writers (λ w. q w || (really && is_among w ws))

among-taken : (b : Bool) (w : ℕ) (ws : List ℕ) → is_among w (taken_if b ws) ≡ (b && is_among w ws)
among-taken b w ws = grind arith

pub enters-taken : (old new : List ℕ) (b : Bool) (ws : List ℕ) → new ≡ entered (taken_if b ws) old → Enters old new b ws
enters-taken old new b ws e = grind (arith, writers-agree, among-writers, among-taken)

enters-false : (old ws : List ℕ) → Enters old old false ws
enters-false old ws = λ q h. h ∙ writers-agree q (λ w. q w || false) (λ w l. sym (or-false (q w)))

pub enters-not : (old ws : List ℕ) (b : Bool) → b ≡ false → Enters old old b ws
enters-not old ws b e = subst (λ c. Enters old old c ws) (sym e) (enters-false old ws)

froze-said : (log : List Entry) (p : Place) (said : Said) (now : ℕ) (ws : List ℕ) → writers (λ w. has_frozen log w || ((is_freeze p.group && is_ok said) && is_among w ws)) ≡ writers (has_frozen (log ++ map (at_place p said now) ws))
froze-said log p said now ws = writers-agree _ (has_frozen (log ++ map (at_place p said now) ws)) (λ i l. sym
    (any-append (λ (x : Entry). is_freeze x.place.group && is_ok x.said && (x.who == i)) log (map (at_place p said now) ws)
    ∙ ap (λ b. has_frozen log i || b) (any-map (λ (x : Entry). is_freeze x.place.group && is_ok x.said && (x.who == i)) (at_place p said now) ws ∙ any-among (is_freeze p.group && is_ok said) i ws)))

thawed-said : (log : List Entry) (p : Place) (said : Said) (now : ℕ) (ws : List ℕ) → writers (λ w. has_thawed log w || (is_thaw p.group && is_among w ws)) ≡ writers (has_thawed (log ++ map (at_place p said now) ws))
thawed-said log p said now ws = writers-agree _ (has_thawed (log ++ map (at_place p said now) ws)) (λ i l. sym
    (any-append (λ (x : Entry). is_thaw x.place.group && (x.who == i)) log (map (at_place p said now) ws)
    ∙ ap (λ b. has_thawed log i || b) (any-map (λ (x : Entry). is_thaw x.place.group && (x.who == i)) (at_place p said now) ws ∙ any-among (is_thaw p.group) i ws)))

-- ## all that is kept

-- what a call makes of r as these say something in the open group, at p
pub record Keeps (r n : RunningAgenda) (p : Place) (whos : List ℕ) (said : Said) (now : ℕ) : Type 0 where
  pub kind : n.kind ≡ r.kind
  pub left : n.agenda ≡ advance whos (not (is_ok said)) r.agenda
  pub froze : Enters r.froze n.froze (is_freeze p.group && is_ok said) whos
  pub thawed : Enters r.thawed n.thawed (is_thaw p.group) whos
  pub opened : n.opened ≡ opened_after p (open_place n.agenda) r.opened now
  pub freeze_opened : n.freeze_opened ≡ freeze_opened_after p r.freeze_opened now
  pub held : n.held ≡ held_after p r.held now

fits-at : (r n : RunningAgenda) (a b : Agenda) (p : Place) (whos : List ℕ) (said : Said) (now : ℕ) → b.kind ≡ a.kind → b.begun ≡ a.begun → b.log ≡ a.log ++ map (at_place p said now) whos
    → is_nil whos ≡ false → p ≡ open_place (groups_left a) → Keeps r n p whos said now → Fits r a → n.agenda ≡ groups_left b → HoldsOwn b → Fits n b
fits-at r n a b p whos said now bk bb bl y e k f l own = record {
  kind = k.kind ∙ f.kind ∙ sym bk;
  left = l;
  froze = k.froze (has_frozen a.log) f.froze ∙ froze-said a.log p said now whos ∙ ap (λ es. writers (has_frozen es)) (sym bl);
  thawed = k.thawed (has_thawed a.log) f.thawed ∙ thawed-said a.log p said now whos ∙ ap (λ es. writers (has_thawed es)) (sym bl);
  opened = k.opened ∙ ap (λ t. opened_after p (open_place n.agenda) t now) (f.opened ∙ ap (λ q. last_time a.begun (filter (λ (x : Entry). not (same_place x.place q)) a.log)) (sym e))
      ∙ opened-said a.begun a.log p said now whos y (open_place n.agenda) (same_place p (open_place n.agenda)) refl
      ∙ ap (λ os. last_time a.begun (filter (λ (x : Entry). not (same_place x.place (open_place os))) (a.log ++ map (at_place p said now) whos))) l
      ∙ ap (λ t. last_time t (filter (λ (x : Entry). not (same_place x.place (open_place (groups_left b)))) (a.log ++ map (at_place p said now) whos))) (sym bb)
      ∙ ap (λ es. last_time b.begun (filter (λ (x : Entry). not (same_place x.place (open_place (groups_left b)))) es)) (sym bl);
  freeze_opened = k.freeze_opened ∙ ap (λ t. freeze_opened_after p t now) f.freeze_opened ∙ sym (last-passing (λ (x : Entry). is_prepare_snapshot x.place.group) a.begun a.log p said now (is_prepare_snapshot p.group) (λ w. refl) whos y)
      ∙ ap (λ t. last_time t (filter (λ (x : Entry). is_prepare_snapshot x.place.group) (a.log ++ map (at_place p said now) whos))) (sym bb)
      ∙ ap (λ es. last_time b.begun (filter (λ (x : Entry). is_prepare_snapshot x.place.group) es)) (sym bl);
  held = k.held ∙ ap (λ t. held_after p t now) f.held ∙ held-said a.log p said now whos y ∙ ap first_hold (sym bl);
  own = own;
}

-- what is kept fits the log in which these said it, who were waited for
pub fits-all_say : (r n : RunningAgenda) (p : Place) (whos : List ℕ) (said : Said) (now : ℕ) → is_nil whos ≡ false → p ≡ open_place r.agenda → Keeps r n p whos said now
    → (a : Agenda) → Fits r a → ((v : ℕ) → is_among v whos ≡ true → is_among v (waits_now (groups_left a)) ≡ true) → Fits n (all_say said now whos a)
fits-all_say r n p whos said now y e k a f waited =
    let q : p ≡ open_place (groups_left a) = e ∙ ap open_place f.left in
    fits-at r n a (all_say said now whos a) p whos said now refl refl (ap (λ x. a.log ++ map (at_place x said now) whos) (sym q)) y q k f
    (k.left ∙ ap (advance whos (not (is_ok said))) f.left ∙ sym (groups_left-all_say said now whos a)) (own-said said now whos a waited f.own)

-- ## the provider's groups

-- no writer freezes or thaws at a step of the provider
pub no-freeze : (os : List Open) (p : Place) → p ≡ open_place os → is_working os ≡ true → (is_freeze p.group && true) ≡ false
no-freeze os p e h = grind arith

pub no-thaw : (os : List Open) (p : Place) → p ≡ open_place os → is_working os ≡ true → is_thaw p.group ≡ false
no-thaw os p e h = grind arith

-- ## a call in its parts: who is done, who froze or thawed, and the times

abbrev timed_as : RunningAgenda → RunningAgenda → RunningAgenda
timed_as e n = record e { opened = n.opened; freeze_opened = n.freeze_opened; held = n.held }

pub keeps-timed : (r e n : RunningAgenda) (p : Place) (whos : List ℕ) (said : Said) (now : ℕ)
    → e.agenda ≡ advance whos (not (is_ok said)) r.agenda → Enters r.froze e.froze (is_freeze p.group && is_ok said) whos → Enters r.thawed e.thawed (is_thaw p.group) whos
    → e.kind ≡ r.kind → e.opened ≡ r.opened → e.freeze_opened ≡ r.freeze_opened → e.held ≡ r.held
    → n.opened ≡ opened_after p (open_place e.agenda) e.opened now → n.freeze_opened ≡ freeze_opened_after p e.freeze_opened now → n.held ≡ held_after p e.held now → n ≡ timed_as e n
    → Keeps r n p whos said now
keeps-timed r e n p whos said now l f t ek eo ef eh nx nf nh same = grind arith

abbrev entered_as : RunningAgenda → RunningAgenda → RunningAgenda
entered_as m e = record m { froze = e.froze; thawed = e.thawed }

-- m is r with an agenda that has advanced
pub keeps-entered : (r m e n : RunningAgenda) (p : Place) (whos ws : List ℕ) (said : Said) (ok : Bool) (now : ℕ)
    → m.agenda ≡ advance whos (not (is_ok said)) r.agenda → m.froze ≡ r.froze → m.thawed ≡ r.thawed
    → m.kind ≡ r.kind → m.opened ≡ r.opened → m.freeze_opened ≡ r.freeze_opened → m.held ≡ r.held
    → ws ≡ whos → ok ≡ is_ok said
    → e.froze ≡ entered (taken_if (is_freeze p.group && ok) ws) m.froze → e.thawed ≡ entered (taken_if (is_thaw p.group) ws) m.thawed → e ≡ entered_as m e
    → n.opened ≡ opened_after p (open_place e.agenda) e.opened now → n.freeze_opened ≡ freeze_opened_after p e.freeze_opened now → n.held ≡ held_after p e.held now → n ≡ timed_as e n
    → Keeps r n p whos said now
keeps-entered r m e n p whos ws said ok now ma mf mt mk mo mp mh w o ef et es nx nf nh same = keeps-timed r e n p whos said now
    (ap (λ (x : RunningAgenda). x.agenda) es ∙ ma)
    (enters-taken r.froze e.froze (is_freeze p.group && is_ok said) whos
    (ef ∙ ap (λ b. entered (taken_if (is_freeze p.group && b) ws) m.froze) o ∙ ap (λ xs. entered (taken_if (is_freeze p.group && is_ok said) xs) m.froze) w ∙ ap (entered (taken_if (is_freeze p.group && is_ok said) whos)) mf))
    (enters-taken r.thawed e.thawed (is_thaw p.group) whos (et ∙ ap (λ xs. entered (taken_if (is_thaw p.group) xs) m.thawed) w ∙ ap (entered (taken_if (is_thaw p.group) whos)) mt))
    (ap (λ (x : RunningAgenda). x.kind) es ∙ mk)
    (ap (λ (x : RunningAgenda). x.opened) es ∙ mo)
    (ap (λ (x : RunningAgenda). x.freeze_opened) es ∙ mp)
    (ap (λ (x : RunningAgenda). x.held) es ∙ mh)
    nx nf nh same

-- ## who stands frozen

pub frozen-yes : (r : RunningAgenda) (a : Agenda) → is_snapshot r.kind ≡ true → Fits r a → others r.thawed r.froze ≡ writers (is_frozen (Some a))
frozen-yes r a e f =
    ap (λ ts. others ts r.froze) f.thawed ∙ ap (others (writers (has_thawed a.log))) f.froze ∙ others-writers (writers (has_thawed a.log)) (has_frozen a.log)
    ∙ writers-agree _ (is_frozen (Some a)) (λ w l. ap (λ b. has_frozen a.log w && not b) (among-writers (has_thawed a.log) w l) ∙ ap (λ s. s && has_frozen a.log w && not (has_thawed a.log w)) (sym (ap is_snapshot (sym f.kind) ∙ e)))

pub frozen-no : (r : RunningAgenda) (a : Agenda) → is_snapshot r.kind ≡ false → Fits r a → [] ≡ writers (is_frozen (Some a))
frozen-no r a e f = grind (arith, writers-agree, writers-none)

-- ## The limits that run follow from what is kept; what is kept is from no later tick than now.

-- ## the limits that run

runs-since : (b : Bool) (l : Limit) (since ticks : ℕ) → runs_if b l since ticks ≡ runs_since l (cond b (Some since) None) ticks
runs-since b l since ticks = grind arith

hold-since : (g : Group) (held : Option ℕ) → hold_running g held ≡ runs_since HoldLimit (cond (hold_runs g) held None) hold_limit
hold-since g held = grind arith

limits-at : (freeze : ℕ) (r : RunningAgenda) (a : Agenda) (os : List Open) → r.held ≡ first_hold a.log → r.freeze_opened ≡ freeze_opened_at a → r.opened ≡ place_opened_at a → groups_left a ≡ os
    → running_at freeze a os
    ≡ runs_since HoldLimit (since_at HoldLimit (open_group os) r) hold_limit ++ runs_since FreezeLimit (since_at FreezeLimit (open_group os) r) freeze ++ runs_since AnswerLimit (since_at AnswerLimit (open_group os) r) answer_limit
limits-at freeze r a [] h f o l = refl
limits-at freeze r a (x ∷ os) h f o l =
    ap (λ ls. ls ++ runs_if (freeze_runs x.place.group) FreezeLimit (freeze_opened_at a) freeze ++ runs_if (answer_runs x.place.group) AnswerLimit (opened_at a x) answer_limit)
    (ap (hold_running x.place.group) (sym h) ∙ hold-since x.place.group r.held)
    ∙ ap (λ ls. runs_since HoldLimit (since_at HoldLimit (Some x.place.group) r) hold_limit ++ ls ++ runs_if (answer_runs x.place.group) AnswerLimit (opened_at a x) answer_limit)
    (ap (λ t. runs_if (freeze_runs x.place.group) FreezeLimit t freeze) (sym f) ∙ runs-since (freeze_runs x.place.group) FreezeLimit r.freeze_opened freeze)
    ∙ ap (λ ls. runs_since HoldLimit (since_at HoldLimit (Some x.place.group) r) hold_limit ++ runs_since FreezeLimit (since_at FreezeLimit (Some x.place.group) r) freeze ++ ls)
    (ap (λ t. runs_if (answer_runs x.place.group) AnswerLimit t answer_limit) (sym (o ∙ ap (λ q. last_time a.begun (filter (λ (e : Entry). not (same_place e.place q)) a.log)) (ap open_place l))) ∙ runs-since (answer_runs x.place.group) AnswerLimit r.opened answer_limit)

-- what is kept tells which limits run, and since when
pub limits-kept : (freeze : ℕ) (r : RunningAgenda) (a : Agenda) → Fits r a → running_limits freeze (Some a) ≡ kept_limits freeze r
limits-kept freeze r a f = ap (running_at freeze a) (sym f.left) ∙ limits-at freeze r a r.agenda f.held f.freeze_opened f.opened (sym f.left)

-- ## the first that is spent

-- b, d and e say whether hold, freeze and answer are spent
first-of-all : (now : ℕ) (h f a : Option ℕ) (freeze : ℕ) (b d e : Bool) → spent_since now h hold_limit ≡ b → spent_since now f freeze ≡ d → spent_since now a answer_limit ≡ e
    → option_map (λ (x : Running). x.limit) (spent_of now (runs_since HoldLimit h hold_limit ++ runs_since FreezeLimit f freeze ++ runs_since AnswerLimit a answer_limit))
    ≡ cond b (Some HoldLimit) (cond d (Some FreezeLimit) (cond e (Some AnswerLimit) None))
first-of-all now h f a freeze b d e hb hd he = grind arith

pub spent-kept : (freeze now : ℕ) (r : RunningAgenda) (b d e : Bool)
    → spent_since now (running_since HoldLimit r) hold_limit ≡ b → spent_since now (running_since FreezeLimit r) freeze ≡ d → spent_since now (running_since AnswerLimit r) answer_limit ≡ e
    → (a : Agenda) → Fits r a
    → cond b (Some HoldLimit) (cond d (Some FreezeLimit) (cond e (Some AnswerLimit) None)) ≡ option_map (λ (x : Running). x.limit) (spent_of now (running_limits freeze (Some a)))
spent-kept freeze now r b d e hb hd he a f =
    sym (first-of-all now (running_since HoldLimit r) (running_since FreezeLimit r) (running_since AnswerLimit r) freeze b d e hb hd he)
    ∙ ap (λ ls. option_map (λ (x : Running). x.limit) (spent_of now ls)) (sym (limits-kept freeze r a f))

-- ## the ticks until one is spent

until-all : (now : ℕ) (h f a : Option ℕ) (freeze : ℕ)
    → unwrap_or (sooner (sooner (until_since now h hold_limit) (until_since now f freeze)) (until_since now a answer_limit)) 0
    ≡ ticks_to_spend now (runs_since HoldLimit h hold_limit ++ runs_since FreezeLimit f freeze ++ runs_since AnswerLimit a answer_limit)
until-all now h f a freeze = grind arith

pub until-kept : (freeze now : ℕ) (r : RunningAgenda) (a : Agenda) → Fits r a
    → unwrap_or (sooner (sooner (until_since now (running_since HoldLimit r) hold_limit) (until_since now (running_since FreezeLimit r) freeze)) (until_since now (running_since AnswerLimit r) answer_limit)) 0
    ≡ ticks_to_spend now (running_limits freeze (Some a))
until-kept freeze now r a f = grind (arith, until-all, limits-kept)

pub most-or : (o : Option ℕ) (r n : ℕ) → r ≡ unwrap_or o 0 → IfSome o (λ t. t ≤ n) → r ≤ n
most-or o r n e h = grind arith

-- ## no time that is kept is after now

if-before : (b : Bool) (now t u : ℕ) → t ≤ now → u ≤ now → cond b t u ≤ now
if-before b now t u h k = grind arith

held-before : (p : Place) (now : ℕ) (held : Option ℕ) → ForSome held (λ t. t ≤ now) → ForSome (held_after p held now) (λ t. t ≤ now)
held-before p now held h = grind arith

-- nor after something is said now
pub none-after-keeps : (r n : RunningAgenda) (p : Place) (whos : List ℕ) (said : Said) (now : ℕ) → Keeps r n p whos said now → NoneAfter now r → NoneAfter now n
none-after-keeps r n p whos said now k h = grind (arith, common_steps, if-before, held-before)

pub by-later : (now later : ℕ) (r : Option RunningAgenda) → now ≤ later → IsBy now r → IsBy later r
by-later now later r l h = grind arith

-- ## What a call tells, from what was noted before it and what is kept after it.

pub frozen-none : (r : Option RunningAgenda) (ag : Option Agenda) → r ≡ None → FitsRun r ag → [] ≡ writers (is_frozen ag)
frozen-none r ag e h = grind (arith, writers-agree, writers-none)

frozen-at : (r : RunningAgenda) (ws : List ℕ) → ((a : Agenda) → Fits r a → ws ≡ writers (is_frozen (Some a))) → (ag : Option Agenda) → FitsRun (Some r) ag → ws ≡ writers (is_frozen ag)
frozen-at r ws f ag h = grind arith

pub frozen-some : (run : Option RunningAgenda) (r : RunningAgenda) (ws : List ℕ) (ag : Option Agenda) → run ≡ Some r → ((a : Agenda) → Fits r a → ws ≡ writers (is_frozen (Some a))) → FitsRun run ag → ws ≡ writers (is_frozen ag)
frozen-some run r ws ag e f h = frozen-at r ws f ag (subst (λ x. FitsRun x ag) e h)

pub held-none : (run : Option RunningAgenda) (ag : Option Agenda) (v : ℕ) → run ≡ None → FitsRun run ag → false ≡ is_held ag v
held-none run ag v e h = grind arith

held-at : (r : RunningAgenda) (ag : Option Agenda) (v : ℕ) → FitsRun (Some r) ag → is_held_now r.agenda v ≡ is_held ag v
held-at r ag v h = grind (arith, held-log)

pub held-some : (run : Option RunningAgenda) (r : RunningAgenda) (ag : Option Agenda) (v : ℕ) → run ≡ Some r → FitsRun run ag → is_held_now r.agenda v ≡ is_held ag v
held-some run r ag v e h = held-at r ag v (subst (λ x. FitsRun x ag) e h)

-- those of one set that are not in the other
pub newly-others : (before after : ℕ → Bool) (xs ys : List ℕ) → xs ≡ writers before → ys ≡ writers after → others xs ys ≡ newly before after
newly-others before after xs ys e f = grind (arith, others-writers, writers-agree, among-writers)

pub runs-is : (r : Option RunningAgenda) (ag : Option Agenda) → FitsRun r ag → is_some r ≡ is_some ag
runs-is r ag h = grind arith

pub rests-is : (r : Option RunningAgenda) (ag : Option Agenda) → FitsRun r ag → is_none r ≡ not (is_some ag)
rests-is r ag h = grind arith
