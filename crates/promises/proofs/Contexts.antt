-- What keeps the context of a set, whose session it is, and whether it has failed.
use Rattle.std.proofs.Common.{◌≡◌, ◌∙◌, ℕ, ◌+◌, ◌==◌, List, [], ◌∷◌, ◌++◌, Option, Some, None, refl, Bool, true, false, ap, sym, subst, map, find, length}
use Rattle.std.proofs.Common.{arith}
use Rattle.std.specs.Prelude.{is_some, option_map, if◌then◌else◌}
use Rattle.write_history.specs.History.{cut as history_cut}
use Rattle.promises.proofs.Members.{same_number}
use Rattle.promises.proofs.Words.{Context, Backup, SetOutcome, VssResult, Mark, Write, Image, History, point_in, Course, Session}
use Rattle.promises.proofs.Words.{agenda_ended, set_failed, State, SetRow, in_progress, row_changed, has_image, with_room_if, put, cut_set, image_made}
use Rattle.promises.proofs.Words.{each_change, NumberedFrom, IsOfSession as IsSessionOfSet, is_early, stands, Ending, ending, row_settled, concluded, followed}
use Rattle.promises.proofs.Words.{failed_in, number_is, Group, is_running, step_made, failure_of, failure_in}

-- ## What keeps the context of a set, and whose session it is.

-- ## the context of a set

abbrev pub context_in : List SetRow → ℕ → Option Context
context_in rows n = option_map (λ (r : SetRow). r.context) (find (λ (r : SetRow). r.number == n) rows)

pub context_map : (f : SetRow → SetRow) → ((r : SetRow) → (f r).number ≡ r.number) → ((r : SetRow) → (f r).context ≡ r.context) → (rows : List SetRow) (n : ℕ)
    → context_in (map f rows) n ≡ context_in rows n
context_map f num con [] n = refl
context_map f num con (r ∷ rows) n = grind (arith, context_map f num con rows n)

pub settled_number : (o : SetOutcome) (r : SetRow) → (row_settled o r).number ≡ r.number
settled_number o r = grind arith

pub changed_number : (n : ℕ) (f : SetRow → SetRow) (r : SetRow) → (f r).number ≡ r.number → (row_changed n f r).number ≡ r.number
changed_number n f r e = grind arith

pub changed_context : (n : ℕ) (f : SetRow → SetRow) (r : SetRow) → (f r).context ≡ r.context → (row_changed n f r).context ≡ r.context
changed_context n f r e = grind arith

pub context_other : (rows : List SetRow) (r : SetRow) (n : ℕ) → (r.number == n) ≡ false → context_in (rows ++ r ∷ []) n ≡ context_in rows n
context_other [] r n e = ap (λ b. option_map (λ (x : SetRow). x.context) (if b then Some r else None)) e
context_other (q ∷ rows) r n e = grind (arith, context_other rows r n e)

pub context_new : (k : ℕ) (rows : List SetRow) (r : SetRow) → NumberedFrom k rows → r.number ≡ length rows + k → context_in (rows ++ r ∷ []) r.number ≡ Some r.context
context_new k [] r h e = ap (λ b. option_map (λ (x : SetRow). x.context) (if b then Some r else None)) (same_number r.number)
context_new k (q ∷ rows) r h e = grind (arith, context_new (k + 1) rows r h.1 (grind arith))

-- ## what is kept

pub record HasMade (q : Option Session) (n : ℕ) : Type 0 where
  pub session : Session
  pub is : q ≡ Some session
  pub set : session.set ≡ Some n

pub record Owned (x : State) : Type 0 where
  pub own : (n v : ℕ) → context_in x.sets n ≡ Some Backup → stands x n v ≡ true → HasMade x.session n
  pub same : (q : Session) (n : ℕ) → x.session ≡ Some q → q.set ≡ Some n → context_in x.sets n ≡ Some q.context
  pub early : (q : Session) → x.session ≡ Some q → is_early q.stage ≡ true → q.set ≡ None

abbrev pub NoMore : State → State → Type 0
NoMore x next = (n v : ℕ) → stands next n v ≡ true → stands x n v ≡ true

-- what an act makes of the session
pub record Keeps (f : Session → Session) : Type 0 where
  pub set : (q : Session) → (f q).set ≡ q.set
  pub context : (q : Session) → (f q).context ≡ q.context
  pub early : (q : Session) → is_early (f q).stage ≡ true → is_early q.stage ≡ true

pub session_was : (f : Session → Session) (o : Option Session) (q : Session) (X : Type 0) → option_map f o ≡ Some q → ((p : Session) → o ≡ Some p → f p ≡ q → X) → X
session_was f o q x3 e g = grind arith

pub owned_still : (f : Session → Session) → Keeps f → (x next : State) → ((n : ℕ) → context_in next.sets n ≡ context_in x.sets n)
    → next.session ≡ option_map f x.session → NoMore x next → Owned x → Owned next
owned_still f k x next con ses img h = record {
  own = λ n v e g. let made = h.own n v (sym (con n) ∙ e) (img n v g) in
      record { session = f made.session; is = ses ∙ ap (option_map f) made.is; set = k.set made.session ∙ made.set };
  same = λ q n e g. session_was f x.session q (context_in next.sets n ≡ Some q.context) (sym ses ∙ e)
      (λ p i j. con n ∙ h.same p n i (sym (k.set p) ∙ ap (λ (y : Session). y.set) j ∙ g) ∙ ap Some (sym (k.context p) ∙ ap (λ (y : Session). y.context) j));
  early = λ q e g. session_was f x.session q (q.set ≡ None) (sym ses ∙ e)
      (λ p i j. sym (ap (λ (y : Session). y.set) j) ∙ k.set p ∙ h.early p i (k.early p (ap (λ (y : Session). is_early y.stage) j ∙ g)));
}

pub as_it_is : Keeps (λ q. q)
as_it_is = record { set = λ q. refl; context = λ q. refl; early = λ q e. e }

pub at_end : Keeps agenda_ended
at_end = record { set = λ q. refl; context = λ q. refl; early = λ q e. grind arith }

pub at_failure : (why : VssResult) → Keeps (set_failed why)
at_failure why = record { set = λ q. refl; context = λ q. refl; early = λ q e. absurd cc }

-- the sets keep their contexts, and the session its own
pub record Relates (rows : List SetRow) (session : Option Session) (next : State) : Type 0 where
  pub change : Session → Session
  pub keeps : Keeps change
  pub contexts : (n : ℕ) → context_in next.sets n ≡ context_in rows n
  pub is : next.session ≡ option_map change session

pub relates_same : (rows : List SetRow) (next : State) → ((n : ℕ) → context_in next.sets n ≡ context_in rows n) → Relates rows next.session next
relates_same rows next e = record { change = λ q. q; keeps = as_it_is; contexts = e; is = grind arith }

pub relates_over : (rows more : List SetRow) (session : Option Session) (next : State) → ((n : ℕ) → context_in more n ≡ context_in rows n) → Relates more session next → Relates rows session next
relates_over rows more session next e h = record { change = h.change; keeps = h.keeps; contexts = λ n. h.contexts n ∙ e n; is = h.is }

pub settled_contexts : (o : SetOutcome) (rows : List SetRow) (n : ℕ) → context_in (map (row_settled o) rows) n ≡ context_in rows n
settled_contexts o rows n = context_map (row_settled o) (settled_number o) (grind arith) rows n

pub relates_ended : (e : Ending) (x : State) → Relates x.sets x.session (concluded e x)
relates_ended e x = grind (arith, relates_same, at_end, settled_contexts, at_failure)

pub relates_followed : (ran : Bool) (c : Course) (x : State) → Relates x.sets x.session (followed ran c x)
unfolding followed
relates_followed ran c x = relates_ended (ending x.course.outcome c.outcome ran c.agenda) (record x { course = c })

pub relates_failed : (o : Option SetRow) (why : VssResult) (x : State) → Relates x.sets x.session (failed_in o why x)
relates_failed o why x = grind (arith, relates_same, at_failure, settled_contexts)

pub relates_room : (b : Bool) (x : State) → Relates x.sets x.session (with_room_if b x)
relates_room b x = grind (arith, relates_failed, relates_same)

pub relates_put : (v : ℕ) (w : Write) (mark : Mark) (rows : List SetRow) (session : Option Session) (x : State) → Relates rows session x → Relates rows session (put v w mark x)
relates_put v w mark rows session x h = grind arith

pub owned_by : (x next : State) → Relates x.sets x.session next → NoMore x next → Owned x → Owned next
owned_by x next r img h = owned_still r.change r.keeps x next r.contexts r.is img h

-- ## what a step makes

made_images : (m n : ℕ) (x : History) → (m == n) ≡ false → has_image n (history_cut m x) ≡ true → has_image n x ≡ true
made_images m n x e h = other x.images (length x.writes) h where
  other : (images : List Image) (p : ℕ) → is_some (point_in n (images ++ record { set = m; point = p } ∷ [])) ≡ true → is_some (point_in n images) ≡ true
  other [] p h = ap (λ b. is_some (if b then Some p else None)) (sym e) ∙ h
  other (i ∷ images) p h = grind (arith, other images p)

pub cut_contexts : (o : Option SetRow) (st : State) (n : ℕ) → context_in (cut_set o st).sets n ≡ context_in st.sets n
cut_contexts o st n = grind (arith, context_map, changed_number, changed_context)

pub owned_made : (o : Option SetRow) (u : Option ℕ) (st : State) → in_progress st ≡ o → IsSessionOfSet st.session st.course.outcome (in_progress st) → Owned st → Owned (image_made o u st)
owned_made (Some r) (Some u) st e k h = record { own = λ n v c g. by_number n v (r.number == n) refl c g; same = h.same; early = h.early } where
  by_number : (n v : ℕ) (b : Bool) → (r.number == n) ≡ b → context_in st.sets n ≡ Some Backup → stands (image_made (Some r) (Some u) st) n v ≡ true → HasMade st.session n
  by_number n v true i c g = subst (HasMade st.session) (number_is r.number n i) (grind (arith, subst (IsSessionOfSet st.session st.course.outcome) e k))
  by_number n v false i c g =
      h.own n v c (each_change (λ x y. has_image n y ≡ true → has_image n x ≡ true) (λ x j. j) (history_cut r.number) (λ x j. made_images r.number n x i j) u st.volumes v g)
owned_made _ _ st e k h = h

-- ## Whether the rows say of a set that it has failed, and what keeps that.

abbrev pub failure_at : List SetRow → ℕ → Option VssResult
failure_at rows n = failure_in (find (λ (r : SetRow). r.number == n) rows)

pub failure_map : (f : SetRow → SetRow) → ((r : SetRow) → (f r).number ≡ r.number) → ((r : SetRow) → failure_of (f r).result ≡ failure_of r.result)
    → (rows : List SetRow) (n : ℕ) → failure_at (map f rows) n ≡ failure_at rows n
failure_map f num res [] n = refl
failure_map f num res (r ∷ rows) n = grind (arith, failure_map f num res rows n)

pub running_calm : (o : SetOutcome) → is_running o ≡ true → failure_of o ≡ None
running_calm o e = grind arith

pub settled_calm : (p : SetOutcome) → failure_of p ≡ None → (r : SetRow) → failure_of (row_settled p r).result ≡ failure_of r.result
settled_calm p e r = grind arith

pub changed_result : (n : ℕ) (f : SetRow → SetRow) (r : SetRow) → (f r).result ≡ r.result → failure_of (row_changed n f r).result ≡ failure_of r.result
changed_result n f r e = grind arith

pub failures_made : (g : Option Group) (v : Option ℕ) (st : State) (n : ℕ) → failure_at (step_made g v st).sets n ≡ failure_at st.sets n
failures_made g v st n = grind (arith, failure_map, changed_number, changed_result)
