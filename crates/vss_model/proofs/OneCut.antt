-- Every act keeps what the images show.
use Rattle.std.proofs.Common.{◌≡◌, ℕ, ◌+◌, ◌==◌, ◌<◌, ◌≤◌, suc, List, [], ◌∷◌, ◌++◌, Option, Some, None, refl, Bool, true, false, map, length, take, ap}
use Rattle.std.proofs.Common.{sym, ◌∙◌, subst, find, inl, inr, arith}
use Rattle.std.specs.Prelude.{option_map, is_some, ◌⊎◌, ◌&&◌, if◌then◌else◌, nat_lt}
use Rattle.vss_model.proofs.Terms.{nat_tests, take-append_seam, length_push, length-map, eqb-true, cases_lt, common_steps, SetOutcome, Member, Mark, Write}
use Rattle.vss_model.proofs.Terms.{Image, History, content, fresh, point_in, dropped, written, reverted, reverted_in_part, AreInTime, Kind, Snapshot, Hold, Cut}
use Rattle.vss_model.proofs.Terms.{Commit, Release, Agenda, Open, plain, same_place, has_said, left, groups_left, open_place, next_member, is_working}
use Rattle.vss_model.proofs.Terms.{open_group, is_snapshot, is_among, Course, change_at, failed as course_failed, stepped as course_stepped, released, Plan}
use Rattle.vss_model.proofs.Terms.{VolumeRow, State, SetRow, row_changed, Kept, is_running, in_progress, row_of, history_of, left_now, is_held, has_image}
use Rattle.vss_model.proofs.Terms.{kept_of, row_settled, runs, is_in_set, with_volume, volumes_of, row_cut, Act, after, state, NumberedFrom, OverButNewest}
use Rattle.vss_model.proofs.Terms.{IsOrderly, is_provider, is_cut_group, is_set, is_cut_of, cut, IsShownAt, Event, Change, Passes, SessionIs, StartsSet}
use Rattle.vss_model.proofs.Terms.{AddsVolume, IsCutAt as CutsAt, CourseIs, Settles, Writes, Makes, Reverts, RevertsPart, DropsSet, Drops, Evicts, apply, holds}
use Rattle.vss_model.proofs.Terms.{history_cut}
use Rattle.vss_model.proofs.StateForm.{cut_set, image_made}
use Rattle.vss_model.specs.Cut.{cut_if, IsCutAt}
use Rattle.vss_model.specs.Changes.{Names}
use Rattle.vss_model.proofs.ByEvent.{some_same}
use Rattle.vss_model.proofs.Changes.{CourseCall, Answers, Steps, Times, Gathers, Prepares, Snapshots, Completes, Disables, Fails, Releases, called, IsDue}
use Rattle.vss_model.proofs.Changes.{Stands, Comes, is_end, by_changes}
use Rattle.vss_model.proofs.CutStep.{gives_image, fewer_apply, both, working_at_commit, has_set, by_cut, by_image, is_commit}
use Rattle.vss_model.proofs.CutStep.{IsAtCommit, at_commit, SaysStep, says_stepped}
use Rattle.vss_model.proofs.Rows.{found_passes, none_runs, number-cut}
use Rattle.vss_model.proofs.Appending.{state-append, by_last}
use Rattle.vss_model.proofs.HeldOfSet.{cut-append, or_cut, is_cut_made, IsOf, IsSameAgenda, Follows, Tied, tied, goes_answered, goes_stepped, goes_timed}
use Rattle.vss_model.proofs.HeldOfSet.{find-row_cut}
use Rattle.vss_model.proofs.Orderly.{find-map, find-settled_over, find-settled_running, true_not_false}
use Rattle.vss_model.proofs.OrderlyActs.{EndsIn, Moves, moves_answered, moves_stepped, moves_timed, orderly}
use Rattle.vss_model.proofs.Volumes.{rewrites, same_writes, held_unwritten, at, at_change, each_map, each_change, each_gone}
use Rattle.vss_model.proofs.AtCut.{IsAtCut, CutsNow, cuts, cut_is_open, all_said, tied_to}
use Rattle.vss_model.proofs.Rules.{Running}
use Rattle.vss_model.proofs.Spoken.{HoldsFirst, held_first, CommitsFirst, commits_first, SaidIn, MakesNone, said_called}
use Rattle.vss_model.proofs.CutHistory.{Shown, Known, writes_at, ShownIn, IsShown, AllShown, shown-filter, shown-reverted}
use Rattle.vss_model.proofs.CutHistory.{shown-reverted_in_part, shown-dropped, shown-written, shown-cut, shown_along, point_shown, append_none}

-- ## facts of the set in progress

-- the agenda of the set is over, and its row does not say so yet
abbrev pub IsOver : Option Agenda → SetOutcome → Type 0
IsOver a o = (a ≡ None) × (is_running o ≡ false)

-- R is of the running agenda and the set in progress, and U says that the set has none of it yet
pub record IsSetFact (R : Option Agenda → Option SetRow → Type 0) (U : Option SetRow → Type 0) : Type 0 where
  pub none : (a : Option Agenda) → R a None
  pub any : (a : Option Agenda) (o : Option SetRow) → U o → R a o
  pub quiet : (o : Option SetRow) → R None o → U o
  pub plain : (a : Agenda) (o : Option SetRow) → is_snapshot a.kind ≡ false → R (Some a) o → U o
  pub goes : (a b : Agenda) (ms ns : List Member) (o p : SetOutcome) (found : Option SetRow) → IsSameAgenda a b ms ns o p → R (Some a) found → R (Some b) found
  pub rows : (f : SetRow → SetRow) → ((r : SetRow) → (f r).number ≡ r.number) → (o : Option SetRow) → U o → U (option_map f o)

module _ (R : Option Agenda → Option SetRow → Type 0) (U : Option SetRow → Type 0) (k : IsSetFact R U) where
  abbrev pub HoldsIn : Option SetRow → Option Agenda → SetOutcome → Type 0
  HoldsIn found a o = R a found ⊎ IsOver a o

  ends_in : (found : Option SetRow) (a : Agenda) (o p : SetOutcome) (b : Bool) → is_running p ≡ b → EndsIn a.kind o p → R (Some a) found → HoldsIn found None p
  ends_in found a o p b e m h = grind (arith, common_steps, nat_tests)

  pub moves_in : (found : Option SetRow) (a : Option Agenda) (ms : List Member) (o : SetOutcome) (b : Option Agenda) (ns : List Member) (p : SetOutcome)
      → Moves a o b p → Follows a ms o b ns p → HoldsIn found a o → HoldsIn found b p
  moves_in found None ms o None ns p m f (inl h) = inl h
  moves_in found None ms o None ns p m f (inr h) = inr (refl, ap is_running m ∙ h.1)
  moves_in found None ms o (Some b) ns p m f h = absurd m
  moves_in found (Some a) ms o None ns p m f (inl h) = ends_in found a o p (is_running p) refl m h
  moves_in found (Some a) ms o (Some b) ns p m f (inl h) = inl (k.goes a b ms ns o p found f h)
  moves_in found (Some a) ms o b ns p m f (inr h) = absurd cc

  module _ (s : Plan) (e : Event) (st x : State) (first : x ≡ st → R x.course.agenda (in_progress x)) where
    begins_in : (a : Option Agenda) (p : SetOutcome) → x ≡ st → runs st ≡ false → HoldsIn (in_progress x) a p
    begins_in a p g f =
        inl (k.any a (in_progress x)
        (k.quiet (in_progress x) (subst (λ b. R b (in_progress x)) (ap (λ (y : State). y.course.agenda) g ∙ none_runs st.course.agenda f) (first g))))

    pub on_called : (call : CourseCall) → IsDue st x.course call → Stands e st x call → HoldsIn (in_progress x) x.course.agenda x.course.outcome
        → HoldsIn (in_progress x) (called s st call x.course).agenda (called s st call x.course).outcome
    unfolding course_failed released
    on_called (Answers w said) i j h = moves_in (in_progress x) x.course.agenda x.course.members x.course.outcome _ _ _
        (moves_answered w said st.clock x.course) (goes_answered w said st.clock x.course) h
    on_called (Steps ok) i j h =
        moves_in (in_progress x) x.course.agenda x.course.members x.course.outcome _ _ _
        (moves_stepped ok st.clock x.course (subst (λ c. is_working (left c.agenda) ≡ true) (sym i.1) i.0)) (goes_stepped ok st.clock x.course) h
    on_called (Times now) i j h = moves_in (in_progress x) x.course.agenda x.course.members x.course.outcome _ _ _ (moves_timed now x.course)
        (goes_timed now x.course) h
    on_called Gathers i j h = begins_in _ _ j i.goes.quiet
    on_called (Prepares q) i j h = begins_in _ _ j i.0.quiet
    on_called Snapshots i j h = begins_in _ _ j.0 i.goes.quiet
    on_called Completes i j h = begins_in _ _ j i.goes.quiet
    on_called (Disables w) i j h = h
    on_called (Fails why) i j h = inr (refl, refl)
    on_called Releases i j h = inl (subst (R None) (sym j.0) (k.none None))

-- ## the fact

-- the writes of a volume are those at the cut until it is released; m says whether it was held before the act
abbrev pub Since : Bool → Bool → List Write → List Write → Type 0
Since true released old new = released ≡ false → new ≡ old
Since false released old new = released ≡ true

-- set n was cut in state y: its agenda runs and says so, and a volume has its image only once its Commit step is made
pub record IsSince (m : ℕ → Bool) (n : ℕ) (y : State) (a : Agenda) (hs : List History) : Type 0 where
  pub snapshot : is_snapshot a.kind ≡ true
  pub cut : is_cut_made a.log ≡ true
  pub volumes : a.volumes ≡ volumes_of (in_progress y)
  pub still : (u : ℕ) → is_among u a.volumes ≡ true → Since (m u) (has_said a.log (plain Release) u) (writes_at y u) (at hs u).writes
  pub none : (u : ℕ) → has_said a.log (plain Commit) u ≡ false → has_image n (at hs u) ≡ false

abbrev pub MadeIn : (ℕ → Bool) → ℕ → List History → Option State → Option Agenda → Type 0
MadeIn m n hs None a = Unit {0}
MadeIn m n hs (Some y) None = ⊥
MadeIn m n hs (Some y) (Some a) = IsSince m n y a hs

abbrev pub Progress : (ℕ → Bool) → Known → List History → Option Agenda → Option SetRow → Type 0
Progress m k hs a None = Unit {0}
Progress m k hs a (Some r) = MadeIn m r.number hs (k r.number) a

-- the set in progress was not cut
abbrev pub Uncut : Known → Option SetRow → Type 0
Uncut k None = Unit {0}
Uncut k (Some r) = k r.number ≡ None

unsaid_before : (b c : Bool) → (b ≡ true → c ≡ true) → c ≡ false → b ≡ false
unsaid_before b c f e = grind arith

made_goes : (m : ℕ → Bool) (n : ℕ) (hs : List History) (y : Option State) (a b : Agenda) (ms ns : List Member) (o p : SetOutcome) → IsSameAgenda a b ms ns o p
    → MadeIn m n hs y (Some a) → MadeIn m n hs y (Some b)
made_goes m n hs None a b ms ns o p s h = tt
made_goes m n hs (Some y) a b ms ns o p s h = record {
  snapshot = ap is_snapshot s.kind ∙ h.snapshot;
  cut = s.said (plain Cut) 0 h.cut;
  volumes = s.volumes ∙ h.volumes;
  still = λ u e. grind (arith, s.said (plain Release) u, h.still u (subst (λ vs. is_among u vs ≡ true) s.volumes e));
  none = λ u e. h.none u (unsaid_before _ _ (s.said (plain Commit) u) e);
}

progress_goes : (m : ℕ → Bool) (k : Known) (hs : List History) (a b : Agenda) (ms ns : List Member) (o p : SetOutcome) (found : Option SetRow) → IsSameAgenda a b ms ns o p
    → Progress m k hs (Some a) found → Progress m k hs (Some b) found
progress_goes m k hs a b ms ns o p None s h = tt
progress_goes m k hs a b ms ns o p (Some r) s h = made_goes m r.number hs (k r.number) a b ms ns o p s h

pub cut_fact : (m : ℕ → Bool) (k : Known) (hs : List History) → IsSetFact (Progress m k hs) (Uncut k)
cut_fact m k hs = grind (arith, common_steps, progress_goes)

-- the agenda says that the Cut step is made
abbrev pub Cuts : Option Agenda → Type 0
Cuts a = SaidIn (plain Cut) 0 a

abbrev pub KnownNow : Known → Option SetRow → Type 0
KnownNow k None = Unit {0}
KnownNow k (Some r) = is_some (k r.number) ≡ true

pub record IsCut (m : ℕ → Bool) (k : Known) (x : State) : Type 0 where
  pub shown : AllShown k x.volumes
  pub progress : HoldsIn (Progress m k x.volumes) (Uncut k) (cut_fact m k x.volumes) (in_progress x) x.course.agenda x.course.outcome
  pub known : Cuts x.course.agenda → KnownNow k (in_progress x)
  pub fresh : (n : ℕ) → length x.sets < n → k n ≡ None

-- at the end of an act it does not matter which volumes were held before
abbrev pub always : ℕ → Bool
always v = true

since_held : (b c : Bool) (old new : List Write) → (b ≡ false → c ≡ true) → Since true c old new → Since b c old new
since_held b c old new f h = grind arith

since_same : (b c : Bool) (old new other : List Write) → (b ≡ true → other ≡ new) → Since b c old new → Since b c old other
since_same b c old new other f h = grind arith

-- other volumes, or another view of who was held
progress_along : (m l : ℕ → Bool) (k : Known) (hs ks : List History) (a : Option Agenda) (found : Option SetRow)
    → ((n : ℕ) (y : State) (b : Agenda) → a ≡ Some b → IsSince m n y b hs → IsSince l n y b ks) → Progress m k hs a found → Progress l k ks a found
progress_along m l k hs ks a None f h = tt
progress_along m l k hs ks a (Some r) f h = by_cases (k r.number) a refl h where
  by_cases : (y : Option State) (o : Option Agenda) → a ≡ o → MadeIn m r.number hs y o → MadeIn l r.number ks y o
  by_cases None o e g = tt
  by_cases (Some y) None e g = g
  by_cases (Some y) (Some b) e g = f r.number y b e g

holds_along : (m l : ℕ → Bool) (k : Known) (hs ks : List History) (x : State) → ((n : ℕ) (y : State) (b : Agenda) → x.course.agenda ≡ Some b → IsSince m n y b hs → IsSince l n y b ks)
    → HoldsIn (Progress m k hs) (Uncut k) (cut_fact m k hs) (in_progress x) x.course.agenda x.course.outcome
    → HoldsIn (Progress l k ks) (Uncut k) (cut_fact l k ks) (in_progress x) x.course.agenda x.course.outcome
holds_along m l k hs ks x f (inl h) = inl (progress_along m l k hs ks x.course.agenda (in_progress x) f h)
holds_along m l k hs ks x f (inr h) = inr h

to_rest : (m : ℕ → Bool) (k : Known) (x : State) → IsCut m k x → IsCut always k x
to_rest m k x h = record {
  shown = h.shown;
  progress = holds_along m always k x.volumes x.volumes x
      (λ n y b e g. record { snapshot = g.snapshot; cut = g.cut; volumes = g.volumes; still = λ u i. grind (arith, g.still u i); none = g.none }) h.progress;
  known = h.known;
  fresh = h.fresh;
}

to_act : (s : Plan) (acts : List Act) (k : Known) → IsCut always k (state s acts) → IsCut (is_held (state s acts)) k (state s acts)
to_act s acts k h =
    let st = state s acts in
    record {
      shown = h.shown;
      progress = holds_along always (is_held st) k st.volumes st.volumes st
          (λ n y b e g. record {
            snapshot = g.snapshot;
            cut = g.cut;
            volumes = g.volumes;
            still = λ u i. since_held (is_held st u) _ _ _
                (λ free. grind (
                  arith,
                  common_steps,
                  g.snapshot,
                  (all_said b.log (plain Hold) b.volumes u
                      (subst (Running HoldsFirst) e (held_first s acts) g.cut) i),
                  (sym (ap (λ (o : Option Agenda). holds o u) e) ∙ free),
                )) (g.still u i);
            none = g.none;
          })
          h.progress;
      known = h.known;
      fresh = h.fresh;
    }

-- ## each change

abbrev pub is_cut : Change → Bool
is_cut (CutsAt n now) = true
is_cut _ = false

-- an act that is no Cut step cuts nothing
no_cut : (s : Plan) (e : Event) (m : Mark) (st x : State) (c : Change) → (is_provider e && is_cut_group (open_group (left_now st))) ≡ false → Comes s e m st x c → is_cut c ≡ false
no_cut s e m st x c f i = grind (arith, common_steps)

fresh_length : (k : Known) (m n : ℕ) → m ≡ n → ((i : ℕ) → n < i → k i ≡ None) → (i : ℕ) → m < i → k i ≡ None
fresh_length k m n e h i l = h i (subst (λ x. x < i) e l)

-- a set is started: it was not cut
found_append : (m : ℕ → Bool) (k : Known) (hs : List History) (a : Option Agenda) (rows : List SetRow) (r : SetRow) → k r.number ≡ None → Progress m k hs a (find (λ q. is_running q.result) rows)
    → Progress m k hs a (find (λ q. is_running q.result) (rows ++ r ∷ []))
found_append m k hs a [] r e h = grind (arith, common_steps)
found_append m k hs a (q ∷ rows) r e h = head_if (is_running q.result) h (found_append m k hs a rows r e) where
  head_if : (b : Bool) → Progress m k hs a (if b then Some q else find (λ q. is_running q.result) rows)
      → (Progress m k hs a (find (λ q. is_running q.result) rows) → Progress m k hs a (find (λ q. is_running q.result) (rows ++ r ∷ [])))
      → Progress m k hs a (if b then Some q else find (λ q. is_running q.result) (rows ++ r ∷ []))
  head_if true h ih = h
  head_if false h ih = ih h

pub changed_number : (b : Bool) (f : SetRow → SetRow) (r : SetRow) → (f r).number ≡ r.number → (if b then f r else r).number ≡ r.number
changed_number b f r e = grind arith

pub changed_result : (b : Bool) (f : SetRow → SetRow) (r : SetRow) → (f r).result ≡ r.result → (if b then f r else r).result ≡ r.result
changed_result b f r e = grind arith

rows_change : (m : ℕ → Bool) (k : Known) (f : SetRow → SetRow) → ((r : SetRow) → (f r).number ≡ r.number) → ((r : SetRow) → (f r).result ≡ r.result) → (x : State) → IsCut m k x
    → IsCut m k (record x { sets = map f x.sets })
rows_change m k f number result x h =
    let same = find-map f (λ r. ap is_running (result r)) x.sets in
    record {
      shown = h.shown;
      progress = by_cases h.progress;
      known = λ g. subst (KnownNow k) (sym same) (grind (arith, h.known g));
      fresh = fresh_length k (length (map f x.sets)) (length x.sets) (length-map x.sets f) h.fresh;
    } where
      by_cases : Progress m k x.volumes x.course.agenda (in_progress x) ⊎ IsOver x.course.agenda x.course.outcome
          → Progress m k x.volumes x.course.agenda (find (λ r. is_running r.result) (map f x.sets)) ⊎ IsOver x.course.agenda x.course.outcome
      by_cases (inl p) = inl
          (subst (Progress m k x.volumes x.course.agenda) (sym (find-map f (λ r. ap is_running (result r)) x.sets))
          (grind arith))
      by_cases (inr p) = inr p

-- no image is given, and no held volume is written to
with_volumes : (m : ℕ → Bool) (k : Known) (c : Change) (x : State) → gives_image c ≡ false → ((u : ℕ) → m u ≡ true → rewrites u c ≡ false) → AllShown k (apply x c).volumes
    → IsCut m k x → IsCut m k (record x { volumes = (apply x c).volumes })
with_volumes m k c x e f shown h = record {
  shown = shown;
  progress = holds_along m m k x.volumes (apply x c).volumes x
      (λ n y b i g. record {
        snapshot = g.snapshot;
        cut = g.cut;
        volumes = g.volumes;
        still = λ u j. since_same (m u) _ _ _ _ (λ held. same_writes u c x (f u held)) (g.still u j);
        none = λ u j. unsaid_before _ _ (((fewer_apply c x e).each u).sets n) (g.none u j);
      })
      h.progress;
  known = h.known;
  fresh = h.fresh;
}

pub row_number : (n : ℕ) (rows : List SetRow) (r : SetRow) → find (λ q. q.number == n) rows ≡ Some r → r.number ≡ n
row_number n rows r e = eqb-true r.number n (found_passes (λ (q : SetRow). q.number == n) rows r e)

pub kept_point : (n : ℕ) (o : Option SetRow) (p : Option ℕ) (x : Kept) → ((r : SetRow) → o ≡ Some r → r.number ≡ n) → kept_of o p ≡ Some x → (x.row.number ≡ n) × (p ≡ Some x.point)
kept_point n o p x number e = grind arith

module _ (m : ℕ → Bool) (k : Known) (s : Plan) (e : Event) (mark : Mark) (st : State) where
  on_end : (c : Change) (x : State) → is_end c ≡ true → Comes s e mark st x c → IsCut m k x → IsCut m k (apply x c)
  on_end (SessionIs q) x f i h = record { shown = h.shown; progress = h.progress; known = h.known; fresh = h.fresh }
  on_end (Settles o) x f i h = record {
    shown = h.shown;
    progress = inl (grind (arith, common_steps, nat_tests, find-settled_over, find-settled_running, h.progress));
    known = λ g. absurd (subst Cuts i.0 g);
    fresh = fresh_length k (length (map (row_settled o) x.sets)) (length x.sets) (length-map x.sets (row_settled o)) h.fresh;
  }
  on_end (DropsSet n) x f i h = with_volumes m k (DropsSet n) x refl (λ u g. refl)
      (λ v. each_map (λ a b. IsShown k v a → IsShown k v b) (λ a g. g) (dropped n) (shown-dropped n k v) x.volumes v (h.shown v)) h
  on_end _ x f i h = absurd cc

  module _ (no_cut : MakesNone Cut refl e st) (own : Progress m k st.volumes st.course.agenda (in_progress st)) where
    on_change : (c : Change) (x : State) → is_cut c ≡ false → gives_image c ≡ false → ((u : ℕ) → m u ≡ true → rewrites u c ≡ false) → Comes s e mark st x c → IsCut m k x → IsCut m k (apply x c)
    on_change (CourseIs c) x f g w i h = record {
      shown = h.shown;
      progress = subst (λ (d : Course). HoldsIn (Progress m k x.volumes) (Uncut k) (cut_fact m k x.volumes) (in_progress x) d.agenda d.outcome) (sym i.is)
          (on_called (Progress m k x.volumes) (Uncut k) (cut_fact m k x.volumes) s e st x
          (λ j. subst (λ (y : State). Progress m k y.volumes y.course.agenda (in_progress y)) (sym j) own) i.call i.due i.stands h.progress);
      known = λ j. h.known (said_called Cut refl s e st x i.call 0 no_cut i.due i.stands (subst (λ (d : Course). Cuts d.agenda) i.is j));
      fresh = h.fresh;
    }
    on_change (StartsSet r) x f g w i h = record {
      shown = h.shown;
      progress = inl (found_append m k x.volumes x.course.agenda x.sets r
          (h.fresh r.number (newer (length x.sets) (length st.sets) r.number (ap length i.before) (ap (λ (q : SetRow). q.number) i.row)))
          (subst (λ rows. Progress m k x.volumes x.course.agenda (find (λ q. is_running q.result) rows)) (sym i.before)
          (subst (λ (c : Course). Progress m k x.volumes c.agenda (in_progress st)) (sym i.course)
          (subst (λ hs. Progress m k hs st.course.agenda (in_progress st)) (sym i.volumes) own))));
      known = λ j. absurd (subst Cuts (ap (λ (c : Course). c.agenda) i.course ∙ none_runs st.course.agenda i.goes.quiet) j);
      fresh = λ n l. h.fresh n (less (length x.sets) (length (x.sets ++ r ∷ [])) n (length_push x.sets r) l);
    } where
      newer : (a b n : ℕ) → a ≡ b → n ≡ b + 1 → a < n
      newer a b n e f = omega (arith, e, f)

      less : (a b n : ℕ) → b ≡ a + 1 → b < n → a < n
      less a b n e l = omega arith
    on_change (AddsVolume n v) x f g w i h = rows_change m k (row_changed n (with_volume v)) (λ r. changed_number (r.number == n) (with_volume v) r refl)
        (λ r. changed_result (r.number == n) (with_volume v) r refl) x h
    on_change (Writes v a) x f g w i h = with_volumes m k (Writes v a) x g w
        (λ u. each_change (λ b c. IsShown k u b → IsShown k u c) (λ b j. j) (written a) (shown-written a k u) v x.volumes u (h.shown u)) h
    on_change (Reverts v n p) x f g w i h =
        let r = i.0 in
        let parts = kept_point r.set (row_of st r.set) (point_in r.set (history_of st v).images) r.image (λ q j. row_number r.set st.sets q j) r.kept in
        let point : point_in n (at x.volumes v).images ≡ Some p
        = subst (λ (y : State). point_in n (at y.volumes v).images ≡ Some p) (sym i.2)
        (subst (λ j. point_in j (history_of st v).images ≡ Some p) (sym (r.number ∙ parts.0)) (parts.1 ∙ ap Some (sym r.point))) in
        with_volumes m k (Reverts v n p) x g w
        (λ u. at_change (IsShown k u) (reverted n p) v x.volumes u
        (λ same j. shown-reverted k u n p (at x.volumes u) (subst (λ z. point_in n (at x.volumes z).images ≡ Some p) same point) j) (h.shown u)) h
    on_change (RevertsPart v blocks n p j) x f g w i h = with_volumes m k (RevertsPart v blocks n p j) x g w
        (λ u. each_change (λ b c. IsShown k u b → IsShown k u c) (λ b z. z) (reverted_in_part blocks n p j) (shown-reverted_in_part blocks k u n p j) v x.volumes u (h.shown u)) h
    on_change (Drops n v) x f g w i h = with_volumes m k (Drops n v) x g w
        (λ u. each_change (λ b c. IsShown k u b → IsShown k u c) (λ b j. j) (dropped n) (shown-dropped n k u) v x.volumes u (h.shown u)) h
    on_change (Evicts n group) x f g w i h = with_volumes m k (Evicts n group) x g w
        (λ u. each_gone (λ b c. IsShown k u b → IsShown k u c) (λ b j. j) n (λ b j. shown-filter (λ a. nat_lt n a.set) k u b.writes b.images j) group x.volumes u (h.shown u)) h
    on_change (Passes n) x f g w i h = record { shown = h.shown; progress = h.progress; known = h.known; fresh = h.fresh }
    on_change (Names ps) x f g w i h = record { shown = h.shown; progress = h.progress; known = h.known; fresh = h.fresh }
    on_change (CutsAt n now) x f g w i h = absurd cc
    on_change (Makes n v) x f g w i h = absurd cc
    on_change c x f g w i h = on_end c x refl i h

-- what is known after one more act
abbrev pub or_else : Option State → Option State → Option State
or_else None o = o
or_else (Some y) o = Some y

abbrev pub now_if : Bool → State → Option State
now_if true st = Some st
now_if false st = None

abbrev pub next_known : Known → State → Act → Known
next_known k st act n = or_else (k n) (now_if (is_cut_of n st act) st)

-- more is known, and as before where nothing more is
know_more : (k l : Known) (st : State) → ((n : ℕ) → k n ≡ l n) → IsCut always k st → IsCut always l st
know_more k l st same h = grind arith

-- the number of the set in progress is the newest
pub newest_number : (m : ℕ) (rows : List SetRow) (r : SetRow) → NumberedFrom m rows → OverButNewest rows → find (λ q. is_running q.result) rows ≡ Some r → r.number + 1 ≡ m + length rows
newest_number m (q ∷ p ∷ rows) r h o e = newest_number (m + 1) (p ∷ rows) r h.1 o.1 (rest_if (is_running q.result) o.0 e) ∙ shift m (length (p ∷ rows)) where
  rest_if : (b : Bool) → b ≡ false → (if b then Some q else find (λ x. is_running x.result) (p ∷ rows)) ≡ Some r → find (λ x. is_running x.result) (p ∷ rows) ≡ Some r
  rest_if true f g = absurd cc
  rest_if false f g = g

  shift : (a b : ℕ) → (a + 1) + b ≡ a + suc b
  shift a b = omega arith
newest_number m rows r h o e = grind (arith, common_steps, nat_tests)

-- ## the state after the Cut step

record IsNewest (k : Known) (st : State) (r : SetRow) : Type 0 where
  number : r.number ≡ length st.sets
  none : (m : ℕ) → r.number ≤ m → k m ≡ None

pub progress_now : (k : Known) (st : State) → IsOrderly st → IsCut always k st → Progress always k st.volumes st.course.agenda (in_progress st)
progress_now k st o h = grind (arith, common_steps, nat_tests, h.progress)

number_newest : (st : State) (r : SetRow) → in_progress st ≡ Some r → IsOrderly st → r.number ≡ length st.sets
number_newest st r e o = same r.number (length st.sets) (newest_number 1 st.sets r o.numbered o.newest e) where
  same : (a b : ℕ) → a + 1 ≡ 1 + b → a ≡ b
  same a b e = omega arith

newest : (k : Known) (st : State) (r : SetRow) → CutsNow st → in_progress st ≡ Some r → IsOrderly st → IsCut always k st → IsNewest k st r
newest k st r c e o h =
    let number = number_newest st r e o in
    record {
      number = number;
      none = λ m l. by_cases m (cases_lt r.number m)
          (uncut (k r.number) (subst (λ a. MadeIn always r.number st.volumes (k r.number) a) c.runs (subst (Progress always k st.volumes st.course.agenda) e (progress_now k st o h)))) l number;
    } where
      uncut : (y : Option State) → MadeIn always r.number st.volumes y (Some c.agenda) → y ≡ None
      uncut None g = refl
      uncut (Some y) g = absurd (true_not_false (is_cut_made c.agenda.log) g.cut c.at.cut)

      by_cases : (m : ℕ) → (r.number < m) ⊎ (m ≤ r.number) → k r.number ≡ None → r.number ≤ m → r.number ≡ length st.sets → k m ≡ None
      by_cases m (inl l) f i number = h.fresh m (subst (λ x. x < m) number l)
      by_cases m (inr l) f i number = subst (λ x. k x ≡ None) (same r.number m i l) f where
        same : (a b : ℕ) → a ≤ b → b ≤ a → a ≡ b
        same a b e f = omega arith

cut_now : (k : Known) (st : State) (act : Act) (r : SetRow) → is_provider act.event ≡ true → is_cut_group (open_group (left_now st)) ≡ true → in_progress st ≡ Some r → k r.number ≡ None → next_known k st act r.number ≡ Some st
cut_now k st act r e f g h = grind arith

-- the agenda says the Cut now, or the set is over
cut_holds : (l : Known) (n : ℕ) (y : State) (hs : List History) (a : Agenda) (o : SetOutcome) (b : Option Agenda) (p : SetOutcome) (found : Option SetRow) → l n ≡ Some y
    → ((q : SetRow) → found ≡ Some q → q.number ≡ n) → a.kind ≡ Snapshot → Moves (Some a) o b p → ((x : Agenda) → b ≡ Some x → IsSince always n y x hs)
    → HoldsIn (Progress always l hs) (Uncut l) (cut_fact always l hs) found b p
cut_holds l n y hs a o None p found e f g m h = inr (refl, grind (arith, common_steps))
cut_holds l n y hs a o (Some b) p None e f g m h = inl tt
cut_holds l n y hs a o (Some b) p (Some q) e f g m h =
    let same = f q refl in
    inl (subst (λ z. MadeIn always q.number hs z (Some b)) (sym (ap l same ∙ e)) (subst (λ i. IsSince always i y b hs) (sym same) (h b refl)))

-- an image of a set that was not cut
no_image : (k : Known) (n v : ℕ) (h : History) → k n ≡ None → IsShown k v h → has_image n h ≡ false
no_image k n v h e shown = by_point (point_in n h.images) refl where
  by_point : (o : Option ℕ) → point_in n h.images ≡ o → is_some o ≡ false
  by_point None f = refl
  by_point (Some p) f = absurd (subst (λ y. ShownIn y v p h.writes) e (point_shown k v n p h.writes h.images f shown))

-- where the Cut step is the next one
cut_place : (a : Agenda) → a.kind ≡ Snapshot → IsAtCut a → (open_place (groups_left a) ≡ plain Cut) × (next_member (groups_left a) ≡ 0)
cut_place a e c = grind (arith, common_steps, cut_is_open)

on_cut : (k : Known) (act : Act) (st : State) (r : SetRow) → is_provider act.event ≡ true → is_cut_group (open_group (left_now st)) ≡ true → CutsNow st
    → in_progress st ≡ Some r → IsOrderly st → IsCut always k st
    → IsCut always (next_known k st act) (record (cut_set (Some r) st) { course = course_stepped true st.clock st.course })
on_cut k act st r p g c e o h =
    let l = next_known k st act in
    let new = newest k st r c e o h in
    let d = course_stepped true st.clock st.course in
    let uncut = new.none r.number (own r.number) in
    let known = cut_now k st act r p g e uncut in
    let moves : Moves (Some c.agenda) st.course.outcome d.agenda d.outcome = subst (λ a. Moves a st.course.outcome d.agenda d.outcome) c.runs
    (moves_stepped true st.clock st.course (grind arith)) in
    let goes : Follows (Some c.agenda) st.course.members st.course.outcome d.agenda d.members d.outcome
    = subst (λ a. Follows a st.course.members st.course.outcome d.agenda d.members d.outcome) c.runs (goes_stepped true st.clock st.course) in
    let place = cut_place c.agenda c.kind c.at in
    let says : SaysStep (plain Cut) 0 d.agenda = subst (λ q. SaysStep q 0 d.agenda) (ap (λ a. open_place (left a)) c.runs ∙ place.0)
    (subst (λ w. SaysStep (open_place (left st.course.agenda)) w d.agenda) (ap (λ a. next_member (left a)) c.runs ∙ place.1) (says_stepped st.clock st.course)) in
    let found = find-row_cut r.number st.clock st.sets ∙ ap (option_map (row_cut r.number st.clock)) e in
    record {
      shown = λ v. shown_along k l v _ _ (λ z y g. ap (λ o. or_else o (now_if (is_cut_of z st act) st)) g) (h.shown v);
      progress = cut_holds l r.number st st.volumes c.agenda st.course.outcome d.agenda d.outcome _ known
          (λ q f. ap (λ (x : SetRow). x.number) (some_same _ _ (sym f ∙ found)) ∙ number-cut (r.number == r.number) st.clock r) c.kind moves
          (λ b f. since b (subst (λ a. Follows (Some c.agenda) st.course.members st.course.outcome a d.members d.outcome) f goes) (subst (SaysStep (plain Cut) 0) f says) uncut);
      known = λ i. subst (KnownNow l) (sym found) (ap is_some (ap l (number-cut (r.number == r.number) st.clock r) ∙ known));
      fresh = fresh_length l (length (map (row_cut r.number st.clock) st.sets)) (length st.sets) (length-map st.sets (row_cut r.number st.clock))
          (λ m i. grind (arith, along r.number (length st.sets) m new.number i, h.fresh m i));
    }
  where
    own : (a : ℕ) → a ≤ a
    own a = omega arith

    along : (a b m : ℕ) → a ≡ b → b < m → a < m
    along a b m e l = omega arith

    since : (b : Agenda) → IsSameAgenda c.agenda b st.course.members (course_stepped true st.clock st.course).members st.course.outcome (course_stepped true st.clock st.course).outcome
        → has_said b.log (plain Cut) 0 ≡ true → k r.number ≡ None → IsSince always r.number st b st.volumes
    since b same says none = record {
      snapshot = ap is_snapshot (same.kind ∙ c.kind);
      cut = says;
      volumes = same.volumes ∙ (tied_to c.agenda c.agenda.kind st.course.members (in_progress st) r c.kind e c.of_set).0 ∙ sym (ap volumes_of e);
      still = λ u i j. refl;
      none = λ u i. no_image k r.number u (at st.volumes u) none (h.shown u);
    }

-- ## the state after a Commit step

-- the running agenda where a Commit step is the next one
pub record CommitsNow (st : State) : Type 0 where
  pub agenda : Agenda
  pub runs : st.course.agenda ≡ Some agenda
  pub here : IsAtCommit agenda
  pub set : SetRow
  pub is : in_progress st ≡ Some set
  pub unreleased : has_said agenda.log (plain Release) (next_member (groups_left agenda)) ≡ false

commits_in : (o : Option Agenda) (f : Option SetRow) (st : State) → st.course.agenda ≡ o → in_progress st ≡ f → is_commit (open_group (left o)) ≡ true → Tied o st.course.members f
    → Running CommitsFirst o → CommitsNow st
commits_in None f st e g h t first = absurd cc
commits_in (Some a) None st e g h t first = absurd (no_set a.kind (at_commit a h).snapshot t) where
  no_set : (k : Kind) → is_snapshot k ≡ true → IsOf k a.volumes a.members st.course.members None → ⊥
  no_set k i j = grind arith
commits_in (Some a) (Some r) st e g h t first =
    let here = at_commit a h in
    record { agenda = a; runs = e; here = here; set = r; is = g; unreleased = unsaid_before _ _ (first (next_member (groups_left a))) here.unsaid }

pub commits : (s : Plan) (acts : List Act) → is_commit (open_group (left_now (state s acts))) ≡ true → CommitsNow (state s acts)
commits s acts h = let st = state s acts in commits_in st.course.agenda (in_progress st) st refl refl h (tied s acts) (commits_first s acts)

known_some : (o : Option State) → is_some o ≡ true → (y : State) × (o ≡ Some y)
known_some None e = absurd cc
known_some (Some y) e = (y, refl)

in_set_of : (v : ℕ) (o : Option SetRow) → is_among v (volumes_of o) ≡ true → is_in_set v o ≡ true
in_set_of v o e = grind arith

abbrev SameWrites : History → History → Type 0
SameWrites h k = k.writes ≡ h.writes

on_image : (k : Known) (st : State) (c : CommitsNow st) → is_working (left_now st) ≡ true → IsOrderly st → IsCut always k st
    → IsCut always k (record (image_made (Some c.set) (Some (next_member (left_now st))) st) { course = course_stepped true st.clock st.course })
on_image k st c w o h =
    let n = c.set.number in
    let v = next_member (left_now st) in
    let d = course_stepped true st.clock st.course in
    let here : next_member (groups_left c.agenda) ≡ v = sym (ap (λ a. next_member (left a)) c.runs) in
    let known : KnownNow k (Some c.set) = subst (KnownNow k) c.is (h.known (subst Cuts (sym c.runs) c.here.cut)) in
    let y = known_some (k n) known in
    let since : IsSince always n y.0 c.agenda st.volumes
    = subst (λ z. MadeIn always n st.volumes z (Some c.agenda)) y.1
    (subst (λ a. MadeIn always n st.volumes (k n) a) c.runs (subst (Progress always k st.volumes st.course.agenda) c.is (progress_now k st o h))) in
    let among = subst (λ u. is_among u c.agenda.volumes ≡ true) here c.here.among in
    let said : SaysStep (plain Commit) v d.agenda = subst (λ p. SaysStep p v d.agenda) (ap (λ a. open_place (left a)) c.runs ∙ c.here.place) (says_stepped st.clock st.course) in
    record {
      shown = λ u. at_change (IsShown k u) (history_cut n) v st.volumes u
          (λ same. subst (λ i. IsShown k i (at st.volumes i) → IsShown k i (history_cut n (at st.volumes i))) same
          (shown-cut k v n y.0 (at st.volumes v) y.1 (in_set_of v (in_progress y.0) (subst (λ vs. is_among v vs ≡ true) since.volumes among))
          (since.still v among (subst (λ u. has_said c.agenda.log (plain Release) u ≡ false) here c.unreleased))
          (λ m l. h.fresh m (subst (λ i. i < m) (number_newest st c.set c.is o) l))
          (since.none v (subst (λ u. has_said c.agenda.log (plain Commit) u ≡ false) here c.here.unsaid)))) (h.shown u);
      progress = volumes_made d.agenda d.outcome v n said
          (moves_in (Progress always k st.volumes) (Uncut k) (cut_fact always k st.volumes) (in_progress st) st.course.agenda st.course.members st.course.outcome _ _ _
          (moves_stepped true st.clock st.course w) (goes_stepped true st.clock st.course) h.progress);
      known = λ i. subst (KnownNow k) (sym c.is) known;
      fresh = h.fresh;
    }
  where
    made : (v n : ℕ) (b : Agenda) → has_said b.log (plain Commit) v ≡ true → (m : ℕ) (y : State) → IsSince always m y b st.volumes
        → IsSince always m y b (change_at v (history_cut n) st.volumes)
    made v n b e m y g = record {
      snapshot = g.snapshot;
      cut = g.cut;
      volumes = g.volumes;
      still = λ u i. since_same true _ _ _ _ (λ t. each_change SameWrites (λ x. refl) (history_cut n) (λ x. refl) v st.volumes u) (g.still u i);
      none = λ u i. at_change (λ x. has_image m x ≡ false) (history_cut n) v st.volumes u
          (λ same j. absurd (true_not_false (has_said b.log (plain Commit) v) e (subst (λ z. has_said b.log (plain Commit) z ≡ false) (sym same) i))) (g.none u i);
    }

    volumes_made : (b : Option Agenda) (p : SetOutcome) (v n : ℕ) → SaysStep (plain Commit) v b
        → HoldsIn (Progress always k st.volumes) (Uncut k) (cut_fact always k st.volumes) (in_progress st) b p
        → HoldsIn (Progress always k (change_at v (history_cut n) st.volumes)) (Uncut k) (cut_fact always k (change_at v (history_cut n) st.volumes)) (in_progress st) b p
    volumes_made b p v n e (inl g) = inl
        (progress_along always always k st.volumes _ b (in_progress st) (λ m y a i j. made v n a (subst (SaysStep (plain Commit) v) i e) m y j) g)
    volumes_made b p v n e (inr g) = inr g

-- ## every act

parts_not : (a b c : Bool) → (a && b) ≡ false → (a && b && c) ≡ false
parts_not a b c e = grind arith

not_open : (b : Bool) (os : List Open) → (b && is_cut_group (open_group os)) ≡ false → b ≡ true → same_place (open_place os) (plain Cut) ≡ false
not_open b os e f = grind arith

module _ (s : Plan) (past : List Act) (act : Act) (k : Known) (h : IsCut always k (state s past)) where
  -- an act that is no Cut step
  as_before : (is_provider act.event && is_cut_group (open_group (left_now (state s past)))) ≡ false → IsCut always k (after s (state s past) act)
      → IsCut always (next_known k (state s past) act) (after s (state s past) act)
  as_before e g =
      let st = state s past in
      know_more k (next_known k st act) (after s st act)
      (λ n. (grind (arith, common_steps)) ∙ ap (λ b. or_else (k n) (now_if b st))
      (sym (parts_not (is_provider act.event) (is_cut_group (open_group (left_now st))) (is_set n (in_progress st)) e))) g

  on_act_if : (a b : Bool) → (is_provider act.event && is_cut_group (open_group (left_now (state s past)))) ≡ a → (is_provider act.event && is_commit (open_group (left_now (state s past)))) ≡ b
      → IsCut always (next_known k (state s past) act) (after s (state s past) act)
  on_act_if true b e f =
      let st = state s past in
      let parts = both (is_provider act.event) (is_cut_group (open_group (left_now st))) e in
      let c = cuts s past parts.1 in
      let r = has_set st c in
      let l = next_known k st act in
      by_cut (IsCut always l) s st act r.set parts.0 parts.1 r.is (on_end always l s act.event act.mark st) (on_cut k act st r.set parts.0 parts.1 c r.is (orderly s past) h)
  on_act_if false true e f =
      let st = state s past in
      let parts = both (is_provider act.event) (is_commit (open_group (left_now st))) f in
      let c = commits s past parts.1 in
      as_before e (by_image (IsCut always k) s st act c.set parts.0 parts.1 c.is (on_end always k s act.event act.mark st) (on_image k st c (working_at_commit (left_now st) parts.1) (orderly s past) h))
  on_act_if false false e f =
      let st = state s past in
      let m = is_held st in
      let held = to_act s past k h in
      as_before e (to_rest m k (after s st act)
      (by_changes (IsCut m k) s st act
      (λ c x i g. on_change m k s act.event act.mark st (not_open (is_provider act.event) (left_now st) e)
      (grind (arith, common_steps, nat_tests, orderly s past, held.progress))
      c x (no_cut s act.event act.mark st x c e i) (grind (arith, common_steps)) (λ u j. held_unwritten s past act.event act.mark x u j c i) i g) held))

  on_act : IsCut always (next_known k (state s past) act) (after s (state s past) act)
  on_act = on_act_if (is_provider act.event && is_cut_group (open_group (left_now (state s past)))) (is_provider act.event && is_commit (open_group (left_now (state s past)))) refl refl

-- ## every list of acts

abbrev pub state_then : Plan → Option (List Act) → Option State
state_then s o = option_map (state s) o

-- the state at each cut
abbrev pub known : Plan → List Act → Known
known s acts n = state_then s (cut s n acts)

known_next : (s : Plan) (past : List Act) (act : Act) (n : ℕ) → next_known (known s past) (state s past) act n ≡ known s (past ++ act ∷ []) n
known_next s past act n = (grind arith) ∙ ap (state_then s) (sym (cut-append s n past act))

none_shown : (rows : List VolumeRow) (v : ℕ) → at (map (λ _. fresh) rows) v ≡ fresh
none_shown (r ∷ rows) (suc v) = none_shown rows v
none_shown rows v = grind (arith, common_steps, nat_tests)

pub cut_all : (s : Plan) (acts : List Act) → IsCut always (known s acts) (state s acts)
cut_all s acts = by_last (λ past. IsCut always (known s past) (state s past))
    (λ past act h.
    subst (IsCut always (known s (past ++ act ∷ []))) (sym (state-append s past act))
    (know_more _ (known s (past ++ act ∷ [])) (after s (state s past) act) (known_next s past act) (on_act s past act (known s past) h)))
    (record { shown = λ v. subst (IsShown (λ m. None) v) (sym (none_shown s.volumes v)) tt; progress = inl tt; known = λ e. absurd e; fresh = λ n e. refl }) acts

-- where the Cut step is the next one, the set in progress was not cut yet
pub not_cut_yet : (s : Plan) (acts : List Act) (r : SetRow) → CutsNow (state s acts) → in_progress (state s acts) ≡ Some r → cut s r.number acts ≡ None
not_cut_yet s acts r c e = none_then (cut s r.number acts) ((newest (known s acts) (state s acts) r c e (orderly s acts) (cut_all s acts)).none r.number (own r.number)) where
  own : (a : ℕ) → a ≤ a
  own a = omega arith

  none_then : (o : Option (List Act)) → state_then s o ≡ None → o ≡ None
  none_then None f = refl
  none_then (Some acts) f = absurd cc

shown_now : (s : Plan) (acts : List Act) (n v p : ℕ) → point_in n (history_of (state s acts) v).images ≡ Some p → ShownIn (known s acts n) v p (history_of (state s acts) v).writes
shown_now s acts n v p e = point_shown (known s acts) v n p _ _ e ((cut_all s acts).shown v)

-- an image shows its volume at its set's cut
pub image_shown : (s : Plan) (acts : List Act) (n v p : ℕ) → point_in n (history_of (state s acts) v).images ≡ Some p → IsShownAt s v p (history_of (state s acts) v).writes (cut s n acts)
image_shown s acts n v p e = grind (arith, take-append_seam, shown_now s acts n v p e)

-- and stands only on a volume that its set had there
pub image_of_set : (s : Plan) (acts : List Act) (n v p : ℕ) (before : List Act) (r : SetRow) → point_in n (history_of (state s acts) v).images ≡ Some p → cut s n acts ≡ Some before
    → in_progress (state s before) ≡ Some r → is_among v r.volumes ≡ true
image_of_set s acts n v p before r e f g =
    let shown : ShownIn (Some (state s before)) v p (history_of (state s acts) v).writes = subst (λ o. ShownIn (state_then s o) v p (history_of (state s acts) v).writes) f (shown_now s acts n v p e) in
    subst (λ o. is_in_set v o ≡ true) g shown.0

-- ## while a set is in progress

-- an image of the set in progress stands only while its snapshot agenda runs, on a volume whose Commit step is made; until the volume is
-- released its point is the end of the effective writes
pub record IsWithImage (a : Agenda) (v p : ℕ) (ws : List Write) : Type 0 where
  pub snapshot : is_snapshot a.kind ≡ true
  pub cut : is_cut_made a.log ≡ true
  pub among : is_among v a.volumes ≡ true
  pub commit : has_said a.log (plain Commit) v ≡ true
  pub still : has_said a.log (plain Release) v ≡ false → p ≡ length ws

pub with_image : (s : Plan) (acts : List Act) (r : SetRow) (v p : ℕ) → in_progress (state s acts) ≡ Some r → point_in r.number (history_of (state s acts) v).images ≡ Some p
    → (a : Agenda) × (((state s acts).course.agenda ≡ Some a) × IsWithImage a v p (history_of (state s acts) v).writes)
with_image s acts r v p e f =
    let st = state s acts in
    by_cases (known s acts r.number) st.course.agenda (shown_now s acts r.number v p f)
    (subst (Progress always (known s acts) st.volumes st.course.agenda) e (progress_now (known s acts) st (orderly s acts) (cut_all s acts))) where
      volume : (u : ℕ) (o : Option SetRow) → is_in_set u o ≡ true → is_among u (volumes_of o) ≡ true
      volume u o g = grind arith

      said : (b : Bool) (o : Option ℕ) → o ≡ Some p → (b ≡ false → is_some o ≡ false) → b ≡ true
      said b o g h = grind arith

      by_cases : (y : Option State) (a : Option Agenda) → ShownIn y v p (history_of (state s acts) v).writes → MadeIn always r.number (state s acts).volumes y a
          → (b : Agenda) × ((a ≡ Some b) × IsWithImage b v p (history_of (state s acts) v).writes)
      by_cases None a g h = absurd g
      by_cases (Some y) None g h = absurd h
      by_cases (Some y) (Some a) g h =
          let among = subst (λ vs. is_among v vs ≡ true) (sym h.volumes) (volume v (in_progress y) g.0) in (
            a,
            (
              refl,
              record {
                snapshot = h.snapshot;
                cut = h.cut;
                among = among;
                commit = said (has_said a.log (plain Commit) v) (point_in r.number (history_of (state s acts) v).images) f (h.none v);
                still = λ i. sym g.1 ∙ ap (λ (ws : List Write). length ws) (sym (h.still v among i));
              },
            ),
          )

-- a volume of the set in progress has no image of it before its Commit step
pub no_image_yet : (s : Plan) (acts : List Act) (r : SetRow) (a : Agenda) (v : ℕ) → in_progress (state s acts) ≡ Some r → (state s acts).course.agenda ≡ Some a
    → has_said a.log (plain Commit) v ≡ false → has_image r.number (history_of (state s acts) v) ≡ false
no_image_yet s acts r a v e f g = by_point (point_in r.number (history_of (state s acts) v).images) refl where
  by_point : (o : Option ℕ) → point_in r.number (history_of (state s acts) v).images ≡ o → is_some o ≡ false
  by_point None h = refl
  by_point (Some p) h =
      let w = with_image s acts r v p e h in
      absurd (true_not_false (has_said a.log (plain Commit) v) (subst (λ (x : Agenda). has_said x.log (plain Commit) v ≡ true) (some_same _ _ (sym w.1.0 ∙ f)) w.1.1.commit) g)

-- ## where a set was cut

cut_at_if : (s : Plan) (n : ℕ) (past before : List Act) (act : Act) (o : Option (List Act)) (b : Bool) → is_cut_of n (state s past) act ≡ b → or_cut o (cut_if b past None) ≡ Some before
    → (o ≡ Some before → IsCutAt s n before) → IsCutAt s n before
cut_at_if s n past before act o b e f ih = grind (arith, both)

pub cut_is_at : (s : Plan) (n : ℕ) (acts before : List Act) → cut s n acts ≡ Some before → IsCutAt s n before
cut_is_at s n acts before e = by_last (λ past. cut s n past ≡ Some before → IsCutAt s n before)
    (λ past act h f. cut_at_if s n past before act (cut s n past) (is_cut_of n (state s past) act) refl (sym (cut-append s n past act) ∙ f) h) (λ f. absurd cc) acts e

-- ## images in time

in_time : (k : Known) (v : ℕ) (ws : List Write) (images : List Image) → Shown k v ws images → AreInTime (length ws) images
in_time k v ws [] h = tt
in_time k v ws (i ∷ images) h = (grind (arith, common_steps, h.0), grind (arith, h.1), in_time k v ws images h.2)

pub images_in_time : (s : Plan) (acts : List Act) (v : ℕ) → AreInTime (length (history_of (state s acts) v).writes) (history_of (state s acts) v).images
images_in_time s acts v = in_time (known s acts) v _ _ ((cut_all s acts).shown v)

-- ## what an image reads

pub all_taken : (ws : List Write) → take (length ws) ws ≡ ws
all_taken ws = ap (take (length ws)) (append_none ws) ∙ take-append_seam ws []

pub image_reads : (s : Plan) (acts before : List Act) (n v p b : ℕ) → point_in n (history_of (state s acts) v).images ≡ Some p → cut s n acts ≡ Some before
    → content (history_of (state s acts) v).writes p b ≡ content (history_of (state s before) v).writes (length (history_of (state s before) v).writes) b
image_reads s acts before n v p b e f = grind (arith, common_steps, nat_tests, image_shown, all_taken)
