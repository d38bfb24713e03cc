-- Scenarios whose sets all complete, and where the lane that makes the sets stands, read from its own lines alone. (This project's own.)
use Rattle.std.specs.List.{list_all, range_with_len}
use Rattle.std.specs.Prelude.{ℕ, ◌+◌, Bool, true, false, List, [], ◌∷◌, ◌++◌, length, nat_lt, nat_le, ◌==◌, ◌&&◌, not, Option, Some, None, suc, ◌≡◌, ◌<◌, ◌≤◌}
use Rattle.std.specs.Prelude.{◌*◌, All}
use Rattle.set_agenda.specs.Agenda.{is_among}
use Rattle.requestor.specs.declared.stage.Stage.{Stage}
use Rattle.requestor.specs.declared.stage.Stage.TheVariants.{Opened, Gathered, Started, Prepared, Done, Finished, Failed}
use Rattle.scenario.specs.Bounds.{IsOp}
use Rattle.scenario.specs.Calls.{line_of}
use Rattle.scenario.specs.Plan.{Plan, LaneLine, lines_of, script_of}
use Rattle.scenario.specs.declared.line.Line.{Line}
use Rattle.scenario.specs.declared.line.Line.TheVariants.{Writes}
use Rattle.scenario.specs.declared.op.Op.{Op}
use Rattle.scenario.specs.declared.volume_row.VolumeRow.{VolumeRow}
use Rattle.generated.specs.Scenario.{Asked, Begins, Gathers, Awaits, Names, Starts, Adds, Prepares, Snapshots, Completes, Ends, AreAsked}

-- ## Where the lane that makes the sets stands, read from its own lines alone: without a session, in a stage without a running
-- agenda, or where an agenda runs or has just ended. How many sets were started, and the volumes of the one in progress.

pub data Place : Type 0 where
  Free : Place
  Stands : Stage → Place
  -- the agenda for which the stage waits runs, or has ended well
  Waits : Stage → Place

pub record Spot : Type 0 where
  pub place : Place
  pub sets : ℕ
  pub volumes : List ℕ

abbrev pub at : Place → ℕ → List ℕ → Option Spot
at p k vs = Some (record { place = p; sets = k; volumes = vs })

-- the stage that an agenda leads to
abbrev pub stage_next : Stage → Stage
stage_next Opened = Gathered
stage_next Gathered = Gathered
stage_next Started = Prepared
stage_next Prepared = Done
stage_next Done = Finished
stage_next Finished = Finished
stage_next Failed = Failed

-- the set is complete with its snapshot agenda
abbrev pub volumes_next : Stage → List ℕ → List ℕ
volumes_next Started vs = vs
volumes_next s vs = []

abbrev pub added : Bool → ℕ → List ℕ → ℕ → Option Spot
added true k vs v = at (Stands Started) k (vs ++ v ∷ [])
added false k vs v = None

-- where a set has a volume
abbrev pub with_volumes : List ℕ → Option Spot → Option Spot
with_volumes [] x = None
with_volumes (v ∷ vs) x = x

-- where a line leads, where it is let go as it is meant
abbrev pub spot_after : Place → ℕ → List ℕ → Asked → Option Spot
spot_after Free k vs Begins = at (Stands Opened) k []
spot_after Free k vs _ = None
spot_after (Stands Opened) k vs Gathers = at (Waits Opened) k []
spot_after (Stands Opened) k vs _ = None
spot_after (Stands Gathered) k vs (Names w) = at (Stands Gathered) k []
spot_after (Stands Gathered) k vs Starts = at (Stands Started) (k + 1) []
spot_after (Stands Gathered) k vs _ = None
spot_after (Stands Started) k vs (Adds v) = added (not (is_among v vs) && nat_lt (length vs) 64) k vs v
spot_after (Stands Started) k vs Prepares = with_volumes vs (at (Waits Started) k vs)
spot_after (Stands Started) k vs _ = None
spot_after (Stands Prepared) k vs Snapshots = with_volumes vs (at (Waits Prepared) k vs)
spot_after (Stands Prepared) k vs _ = None
spot_after (Stands Done) k vs Completes = at (Waits Done) k []
spot_after (Stands Done) k vs _ = None
spot_after (Stands Finished) k vs Ends = at Free k []
spot_after (Stands Finished) k vs _ = None
spot_after (Stands Failed) k vs _ = None
spot_after (Waits s) k vs Awaits = at (Stands (stage_next s)) k (volumes_next s vs)
spot_after (Waits s) k vs _ = None

abbrev pub is_free : Place → Bool
is_free Free = true
is_free (Stands s) = false
is_free (Waits s) = false

abbrev pub is_at_end : ℕ → Spot → Bool
is_at_end n x = is_free x.place && (x.sets == n)

-- where the set is made, it has all these volumes
abbrev pub is_full : ℕ → Place → List ℕ → Bool
is_full c (Waits Prepared) vs = list_all (λ v. is_among v vs) (range_with_len 0 c)
is_full c _ vs = true

-- from a spot on, these lines lead on to the end of a session, with n sets started in all, each over all c volumes
abbrev pub completes_sets : ℕ → ℕ → List Asked → Option Spot → Bool
completes_sets c n asked None = false
completes_sets c n [] (Some x) = is_at_end n x
completes_sets c n (a ∷ asked) (Some x) = (nat_le x.sets n && is_full c x.place x.volumes) && completes_sets c n asked (spot_after x.place x.sets x.volumes a)

-- ## Scenarios whose sets all complete: one lane makes the sets, and its lines lead on; the other lanes write alone; every
-- writer answers ok; and each volume has slots of its own for all its blocks in each set.

abbrev pub writes : Line → Bool
writes (Writes v b payload) = true
writes _ = false

abbrev pub is_write : Op → Bool
is_write op = writes (line_of op)

-- the groups of these volumes are numbered g, g + 1 and so on: no two volumes share an area
abbrev pub AreAlone : ℕ → List VolumeRow → Type 0
AreAlone g [] = Unit {0}
AreAlone g (r ∷ rs) = (r.group ≡ g) × AreAlone (suc g) rs

pub record IsSmooth (n : ℕ) (s : Plan) : Type 0 where
  pub asked : List Asked
  pub sets : AreAsked s asked (lines_of s 0)
  pub leads : completes_sets (length s.volumes) n asked (Some (record { place = Free; sets = 0; volumes = [] })) ≡ true
  pub few : n < 512
  pub writes : (i : ℕ) → All (λ (l : LaneLine). (is_write l.op ≡ true) × IsOp s l.op) (lines_of s (suc i))
  pub scripts : (w : ℕ) → script_of s w ≡ []
  pub alone : AreAlone 0 s.volumes
  pub room : All (λ (r : VolumeRow). n * r.blocks ≤ r.slots) s.volumes
