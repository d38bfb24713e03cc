-- What is known of every task: want of memory is an answer before anything is touched, and the words of a task are no wrong words.
use Rattle.std.proofs.Common.{◌≡◌, ℕ, ◌<◌, ◌≤◌, List, [], length, refl, sym, arith, Bool, true, Option, Some, None, subst, inl}
use Rattle.std.specs.Prelude.{◌↔◌, ◌⊎◌, is_some, IfSome}
use Rattle.io_edge.specs.Streams.{Gave, IfGave}
use Rattle.volume_device.specs.declared.store.Store.{Store}
use Rattle.volume_device.specs.declared.device.Device.{Ghosts}
use Rattle.vss_main.specs.declared.inspection.Inspection.{Inspection}
use Rattle.vss_main.specs.declared.inspection.Inspection.TheVariants as ended
use Rattle.scenario.specs.Grammar.{reading_of, IsScenario}
use Rattle.scenario.specs.Plan.{Plan}
use Rattle.vss_main.specs.Command.{Asked, most_bytes, most_bytes_for, most_for_task}
use Rattle.vss_main.specs.declared.task.Task.{Task}
use Rattle.vss_main.specs.declared.task.Task.TheVariants.{Run, Generate, Inspect}
use Rattle.vss_main.specs.Inspected.{status_of}
use Rattle.vss_main.specs.Tasks.{IsTask, IsTaskWhereItCan, IsAnswer, IsAnsweredWhereItCan}
use Rattle.vss_main.specs.Outside.{Around}
use Rattle.vss_main.specs.TopCall.{IsCounted, IsDone, IsInputOf, IsMadeOfInput, IsUntouched}
use Rattle.vss_main.specs.declared.status.Status.{Status}
use Rattle.vss_main.specs.declared.status.Status.TheVariants.{Done, Usage, OutOfMemory}

no_less : (a b : ℕ) → b ≡ a → a ≤ b
no_less a b e = omega arith

untouched : {D : Type 0} (ghosts : Ghosts D) (tells : Store → Bool) (folder : Option (List ℕ)) (task : Task) (a : Around D) → IsUntouched a
    → IsTask ghosts tells folder task a OutOfMemory
untouched ghosts tells folder Run a h = record { reads = h.reads; later = no_less a.out.maker.count_first a.out.maker.count_last h.unmade.count; counted = inl h.unmade.count; unwritten = h.unwritten }
untouched ghosts tells folder (Generate n) a h = (
  record { left = h.left; reads = h.reads },
  record { later = no_less a.out.maker.count_first a.out.maker.count_last h.unmade.count; counted = inl h.unmade.count; unwritten = h.unwritten },
)
untouched ghosts tells folder Inspect a h = record {
  ended = ended.OutOfMemory;
  status_is = refl;
  inspected = record { reads = h.reads; silent = record { taken = h.unwritten.taken; writes = h.unwritten.writes } };
  complete = λ bytes had few area none. tt;
  unmade = h.unmade;
}

pub wants_memory : {D : Type 0} (ghosts : Ghosts D) (tells : Store → Bool) (asked : Option Asked) (a : Around D) → is_some asked ≡ true → IsUntouched a
    → IsAnswer ghosts tells asked a OutOfMemory
wants_memory ghosts tells asked a some h = grind (arith, untouched)

-- no status but Usage where the words are a command
pub asked_not_usage : {status : Status} (asked : Option Asked) → is_some asked ≡ true → (status ≡ Usage → ⊥) → (status ≡ Usage) ↔ (asked ≡ None)
asked_not_usage asked some never = grind arith

pub memory_not_usage : OutOfMemory ≡ Usage → ⊥
memory_not_usage e = cc

task_wants : {D : Type 0} (task : Task) (a : Around D) → IsTaskWhereItCan task a OutOfMemory
task_wants task a = grind arith

pub memory_where_it_can : {D : Type 0} (asked : Option Asked) (a : Around D) → IsAnsweredWhereItCan asked a OutOfMemory
memory_where_it_can asked a = grind (arith, task_wants)

not_usage : (e : Inspection) → Usage ≡ status_of e → ⊥
not_usage e h = grind arith

no_usage : {D : Type 0} (ghosts : Ghosts D) (tells : Store → Bool) (folder : Option (List ℕ)) (task : Task) (a : Around D) → IsTask ghosts tells folder task a Usage → ⊥
no_usage ghosts tells folder task a h = grind (arith, not_usage)

pub never_usage : {D : Type 0} (ghosts : Ghosts D) (tells : Store → Bool) (folder : Option (List ℕ)) (task : Task) (a : Around D) (status : Status)
    → IsTask ghosts tells folder task a status → status ≡ Usage → ⊥
never_usage ghosts tells folder task a status h e = no_usage ghosts tells folder task a (subst (λ (x : Status). IsTask ghosts tells folder task a x) e h)

-- nothing was read
pub nothing_given : (left : Option (List ℕ)) (most : ℕ) (A : Type 0) → (A → ⊥) → IfGave left left (λ n. A ↔ (most < n))
nothing_given left most x2 never = grind arith

-- ## by the words

pub answer_by : {D : Type 0} (ghosts : Ghosts D) (tells : Store → Bool) (asked : Option Asked) (given : Asked) (a : Around D) (status : Status) → Some given ≡ asked
    → IsTask ghosts tells given.folder given.task a status → IsAnswer ghosts tells asked a status
answer_by ghosts tells asked given a status e h = subst (λ (o : Option Asked). IsAnswer ghosts tells o a status) e h

pub where_by : {D : Type 0} (asked : Option Asked) (given : Asked) (a : Around D) (status : Status) → Some given ≡ asked → IsTaskWhereItCan given.task a status → IsAnsweredWhereItCan asked a status
where_by asked given a status e h = subst (λ (o : Option Asked). IsAnsweredWhereItCan o a status) e h

pub most_by : (before after : Option (List ℕ)) (A : Type 0) (asked : Option Asked) (given : Asked) → Some given ≡ asked → IfGave before after (λ n. A ↔ (most_for_task given.task < n))
    → IfGave before after (λ n. A ↔ (most_bytes_for asked < n))
most_by before after A asked given e h = subst (λ (o : Option Asked). IfGave before after (λ n. A ↔ (most_bytes_for o < n))) e h

pub some_by : (asked : Option Asked) (given : Asked) → Some given ≡ asked → is_some asked ≡ true
some_by asked given e = subst (λ (o : Option Asked). is_some o ≡ true) e refl

-- ## by the task

pub task_as : {D : Type 0} (ghosts : Ghosts D) (tells : Store → Bool) (folder : Option (List ℕ)) (task other : Task) (a : Around D) (status : Status) → task ≡ other
    → IsTask ghosts tells folder other a status → IsTask ghosts tells folder task a status
task_as ghosts tells folder task other a status e h = subst (λ (t : Task). IsTask ghosts tells folder t a status) (sym e) h

pub where_as : {D : Type 0} (task other : Task) (a : Around D) (status : Status) → task ≡ other → IsTaskWhereItCan other a status → IsTaskWhereItCan task a status
where_as task other a status e h = subst (λ (t : Task). IsTaskWhereItCan t a status) (sym e) h

pub most_as : (before after : Option (List ℕ)) (A : Type 0) (task other : Task) → task ≡ other → IfGave before after (λ n. A ↔ (most_for_task other < n))
    → IfGave before after (λ n. A ↔ (most_for_task task < n))
most_as before after A task other e h = subst (λ (t : Task). IfGave before after (λ n. A ↔ (most_for_task t < n))) (sym e) h

-- where a run was asked for, and ended well
pub done_by : {D : Type 0} (ghosts : Ghosts D) (tells : Store → Bool) (asked : Option Asked) (folder : Option (List ℕ)) (a : Around D) (status : Status)
    → IsAnswer ghosts tells asked a status → asked ≡ Some (record { task = Run; folder = folder }) → status ≡ Done → IsDone ghosts tells folder a
done_by ghosts tells asked folder a status h e f = subst (λ o. IsAnswer ghosts tells o a Done) e (subst (λ x. IsAnswer ghosts tells asked a x) f h)

-- ## by the input

-- the text that was read is this scenario
pub input_of : {D : Type 0} (a : Around D) (text : List ℕ) (s : Plan) → Gave a.left_first text a.left_last → IfSome a.left_last (λ rest. rest ≡ []) → length text ≤ most_bytes
    → reading_of text ≡ IsScenario s → IsInputOf a s
input_of a text s gave to_the_end within is = grind arith

pub counted_by : {D : Type 0} (told : D → Option (List (List ℕ))) (a : Around D) (s : Plan) → IsInputOf a s
    → IsCounted told a.out.maker s → (a.out.maker.count_last ≡ a.out.maker.count_first) ⊎ IsMadeOfInput told a
counted_by told a s input x4 = grind arith
