-- What `document` tells: the component document of the session. It lists, in order of writers and of their components, of each writer that
-- is chosen the components that the session has named since its `begin`, those below a named one, and those that cannot be selected and
-- have nothing above them that can; a session that takes all lists all components of the chosen writers. (These are the SDK's rules on
-- selectability and logical paths; the document's form as JSON is this project's own.)
use Rattle.std.specs.Prelude.{ℕ, ◌≡◌, ◌+◌, ◌==◌, ◌&&◌, ◌||◌, not, if◌then◌else◌, Bool, true, false, List, [], ◌∷◌, ◌++◌, Option, Some, None, slice_get}
use Rattle.std.specs.List.{list_any}
use Rattle.std.specs.Str.{bytes_eq}
use Rattle.serde_json.specs.Written.{compact_text}
use Rattle.writer_meta.specs.Metadata.{Part, full_name, is_ancestor}
use Rattle.component_doc.specs.declared.choice.Choice.{Choice}
use Rattle.component_doc.specs.Selection.{choice_if}
use Rattle.component_doc.specs.Document.{choices_data, document_of}
use Rattle.requestor.specs.Session.{Session}
use Rattle.scenario.specs.declared.op.Op.{Op}
use Rattle.scenario.specs.declared.op.Op.TheVariants.{Begin, Component, Document}
use Rattle.scenario.specs.Plan.{Plan, WriterPlan, token}
use Rattle.vss_model.specs.declared.event.Event.{Event}
use Rattle.vss_model.specs.declared.event.Event.TheVariants.{Line}
use Rattle.vss_model.specs.Reply.{Reply, DocumentOf, is_fine}
use Rattle.vss_model.specs.State.{State, start}
use Rattle.vss_model.specs.Sessions.{known_metas}
use Rattle.vss_model.specs.Acts.{Act, enabled, reply, after, state}
use Rattle.promises.specs.Accepted.{is_accepted, progress}
use Rattle.promises.specs.Participants.{is_chosen, is_unfit, choosing}

-- ## what the session has named

-- of these components, which are those from place j on, the first of the name is at place i
abbrev pub is_first : List ℕ → ℕ → ℕ → List Part → Bool
is_first name i j [] = false
is_first name i j (p ∷ ps) = if bytes_eq (full_name p) name then j == i else is_first name i (j + 1) ps

abbrev pub is_part : Option WriterPlan → List ℕ → ℕ → Bool
is_part None name i = false
is_part (Some p) name i = is_first name i 0 p.meta.parts

-- an accepted line names component i of writer w
abbrev pub line_names : Plan → ℕ → ℕ → Op → Reply → Bool → Bool
line_names s w i (Begin n all) told c = if is_fine told then false else c
line_names s w i (Component u full) told c = if is_fine told then c || ((u == w) && is_part (slice_get s.writers u) (token s full) i) else c
line_names s w i op told c = c

abbrev pub event_names : Plan → ℕ → ℕ → Event → Reply → Bool → Bool
event_names s w i (Line lane op) told c = line_names s w i op told c
event_names s w i event told c = c

abbrev pub names_if : Bool → Plan → ℕ → ℕ → State → Bool → Act → Bool
names_if true s w i st c act = event_names s w i act.event (reply s st act) c
names_if false s w i st c act = c

abbrev pub names_from : Plan → ℕ → ℕ → State → Bool → List Act → Bool
names_from s w i st c [] = c
names_from s w i st c (act ∷ acts) = names_from s w i (after s st act) (names_if (enabled s st act.event) s w i st c act) acts

-- the session has named it
abbrev pub has_named : Plan → ℕ → ℕ → List Act → Bool
has_named s w i acts = names_from s w i (start s) false acts

-- ## which components are listed

-- of these, which are those from place j on, a named one is above the component
abbrev pub is_below : (ℕ → Bool) → Part → ℕ → List Part → Bool
is_below named c j [] = false
is_below named c j (a ∷ parts) = (named j && is_ancestor a c) || is_below named c (j + 1) parts

-- it cannot be selected, and nothing above it can
abbrev pub comes_along : Part → List Part → Bool
comes_along c parts = not c.selectable && not (list_any (λ (a : Part). a.selectable && is_ancestor a c) parts)

-- the component c at place i
abbrev pub is_listed : (ℕ → Bool) → List Part → ℕ → Part → Bool
is_listed named parts i c = named i || is_below named c 0 parts || comes_along c parts

-- of the components of writer w, those from place i on; each with whether it was named
abbrev pub parts_listed : Bool → (ℕ → Bool) → List Part → ℕ → ℕ → List Part → List Choice
parts_listed all named parts w i [] = []
parts_listed all named parts w i (c ∷ cs) = choice_if (all || is_listed named parts i c) w i (not all && named i) ++ parts_listed all named parts w (i + 1) cs

-- of a writer that is chosen
abbrev pub writer_listed : Plan → List Act → ℕ → WriterPlan → List Choice
writer_listed s so_far w p =
    if is_chosen (is_unfit (state s so_far) w) (choosing s w so_far)
    then parts_listed (progress s so_far).all (λ i. has_named s w i so_far) p.meta.parts w 0 p.meta.parts
    else []

-- of the writers from number w on
abbrev pub writers_listed : Plan → List Act → ℕ → List WriterPlan → List Choice
writers_listed s so_far w [] = []
writers_listed s so_far w (p ∷ ps) = writer_listed s so_far w p ++ writers_listed s so_far (w + 1) ps

abbrev pub TellsDocument : Plan → List Act → Act → Type 0
TellsDocument s so_far act = (lane : ℕ) (q : Session) → act.event ≡ Line lane Document → (state s so_far).session ≡ Some q → is_accepted (reply s (state s so_far) act) ≡ true
    → reply s (state s so_far) act
    ≡ DocumentOf (compact_text (document_of (choices_data (known_metas s (state s so_far)) (writers_listed s so_far 0 s.writers)) q.context (not (progress s so_far).all)))
