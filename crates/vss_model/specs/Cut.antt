-- The cut of a set: the acts before its one Cut step. It is one prefix for all volumes of the set; the image of the set on
-- a volume shows the volume at it, and the participants of the set are those of the course there. (This project's own.)
use Rattle.std.specs.Prelude.{ℕ, ◌≡◌, take, Bool, true, false, List, [], ◌∷◌, ◌++◌, length, ◌==◌, ◌&&◌, Option, Some, None}
use Rattle.write_history.specs.History.{Write}
use Rattle.set_agenda.specs.declared.group.Group.{Group}
use Rattle.set_agenda.specs.declared.group.Group.TheVariants.{Orders, PreCommit, Flush, Hold, Cut, Commit, Release, PostCommit}
use Rattle.set_agenda.specs.Agenda.{open_group}
use Rattle.scenario.specs.Plan.{Plan}
use Rattle.vss_model.specs.declared.event.Event.{Event}
use Rattle.vss_model.specs.declared.event.Event.TheVariants.{Line, Answer as AnswerEvent, Provider, Idle}
use Rattle.vss_model.specs.State.{State, SetRow, start, in_progress, left_now, history_of}
use Rattle.vss_model.specs.Acts.{Act, after, state}

abbrev pub is_provider : Event → Bool
is_provider (Line lane op) = false
is_provider (AnswerEvent w answer) = false
is_provider Provider = true
is_provider Idle = false

abbrev pub is_cut_group : Option Group → Bool
is_cut_group None = false
is_cut_group (Some (Orders o)) = false
is_cut_group (Some PreCommit) = false
is_cut_group (Some Flush) = false
is_cut_group (Some Hold) = false
is_cut_group (Some Cut) = true
is_cut_group (Some Commit) = false
is_cut_group (Some Release) = false
is_cut_group (Some PostCommit) = false

abbrev pub is_set : ℕ → Option SetRow → Bool
is_set n None = false
is_set n (Some r) = r.number == n

-- the act is the Cut step of set n
abbrev pub is_cut_of : ℕ → State → Act → Bool
is_cut_of n st act = is_provider act.event && is_cut_group (open_group (left_now st)) && is_set n (in_progress st)

abbrev pub cut_if : Bool → List Act → Option (List Act) → Option (List Act)
cut_if true before later = Some before
cut_if false before later = later

-- `before` are the acts that led to the state
abbrev pub cut_from : Plan → ℕ → List Act → State → List Act → Option (List Act)
cut_from s n before st [] = None
cut_from s n before st (act ∷ acts) = cut_if (is_cut_of n st act) before (cut_from s n (before ++ act ∷ []) (after s st act) acts)

-- the part of the acts before the Cut step of set n, where there is one
abbrev pub cut : Plan → ℕ → List Act → Option (List Act)
cut s n acts = cut_from s n [] (start s) acts

-- an image of volume v with this point shows the volume as it was at the cut of its set: the point is the number of
-- effective writes there, and the effective writes since then begin with those
abbrev pub IsShownAt : Plan → ℕ → ℕ → List Write → Option (List Act) → Type 0
IsShownAt s v p writes None = ⊥
IsShownAt s v p writes (Some before) = (length (history_of (state s before) v).writes ≡ p) × (take p writes ≡ (history_of (state s before) v).writes)

-- after these acts the Cut step of set n is the next one
pub record IsCutAt (s : Plan) (n : ℕ) (before : List Act) : Type 0 where
  pub step : is_cut_group (open_group (left_now (state s before))) ≡ true
  pub set : is_set n (in_progress (state s before)) ≡ true
