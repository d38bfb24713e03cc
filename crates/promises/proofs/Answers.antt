-- An answer says what was done.
use Rattle.std.proofs.Common.{◌≡◌, ◌∙◌, ℕ, ◌+◌, ◌<◌, zero, suc, List, [], ◌∷◌, length, Option, Some, None, refl, Bool, true, false, ap, sym, subst, map, arith}
use Rattle.std.specs.Prelude.{◌&&◌, is_some, if◌then◌else◌}
use Rattle.promises.proofs.Words.{Mark, Write, History, dropped, point_in, Group, open_group, next_volume, change_at, Op, Tick, DeleteSet, DeleteImage, Target}
use Rattle.promises.proofs.Words.{target_of, Plan, Event, Line, Provider, Idle, Deleted, Stepped, State, Kept, has_image, history_of, kept_image, row_of}
use Rattle.promises.proofs.Words.{left_now, is_flush, is_failed_step, Act, enabled, happens, step_reply, after, state, is_fault, is_flush_step, volumes_losing}
use Rattle.promises.proofs.Words.{row_number, kept_point, at, ticks_if, answer_of, AreGone, AnswersSay, after_enabled, count_images, write}
use Rattle.promises.proofs.Words.{delete_set, delete_kept, delete_image, and_right}
use Rattle.promises.proofs.Moves.{clock_after}
use Rattle.promises.proofs.ContextZero.{dropped_gone}
use Rattle.promises.proofs.Accepted.{line_reply}

-- ## writes

write_says : (s : Plan) (v : ℕ) (w : Write) (mark : Mark) (st : State) → (write s v w mark st).0 ≡ answer_of mark
unfolding write
write_says s v w mark st = grind arith

line_says : (s : Plan) (st : State) (lane : ℕ) (op : Op) (t : Target) (mark : Mark) → target_of op ≡ Some t → (happens s (Line lane op) mark st).0 ≡ answer_of mark
line_says s st lane op t mark e = grind (arith, write_says)

-- ## steps

stepped_same : (g h : Group) (v u : Option ℕ) (a b : Bool) → Stepped g v a ≡ Stepped h u b → (g ≡ h) × (a ≡ b)
stepped_same g h v u a b e = (cc, cc)

same_failure : (g : Group) (mark : Mark) → is_failed_step (is_flush (Some g)) mark ≡ (is_flush_step (Some g) && is_fault mark)
same_failure g mark = grind arith

step_says : (o : Option Group) (u : Option ℕ) (mark : Mark) (g : Group) (v : Option ℕ) (fault : Bool) → step_reply o u mark ≡ Stepped g v fault → fault ≡ (is_flush_step (Some g) && is_fault mark)
step_says o u mark g v fault e = grind (arith, stepped_same, same_failure)

-- ## images that go

none_stands : (n : ℕ) (h : History) → has_image n (dropped n h) ≡ false
none_stands n h = grind (arith, dropped_gone)

all_lost : (n v : ℕ) (hs : List History) → length (volumes_losing n v hs (map (dropped n) hs)) ≡ count_images n hs
all_lost n v [] = refl
all_lost n v (h ∷ hs) = grind (arith, none_stands, all_lost n (v + 1) hs)

none_lost : (n v : ℕ) (hs : List History) → length (volumes_losing n v hs hs) ≡ 0
none_lost n v [] = refl
none_lost n v (h ∷ hs) = grind (arith, none_lost n (v + 1) hs)

one_lost : (n v u : ℕ) (hs : List History) → has_image n (at hs u) ≡ true → length (volumes_losing n v hs (change_at u (dropped n) hs)) ≡ 1
one_lost n v zero [] e = absurd cc
one_lost n v (suc u) [] e = absurd cc
one_lost n v zero (h ∷ hs) e = grind (arith, none_stands, none_lost)
one_lost n v (suc u) (h ∷ hs) e = grind (arith, one_lost n (v + 1) u hs e)

deleted_same : (j k : ℕ) → Deleted j ≡ Deleted k → j ≡ k
deleted_same j k e = cc

module _ (st : State) where
  set_says : (n k : ℕ) → (delete_set n st).0 ≡ Deleted k → AreGone k n st (delete_set n st).1
  unfolding delete_set
  set_says n k = grind (arith, deleted_same, and_right, all_lost)

  image_says : (n v k : ℕ) → (delete_image n v st).0 ≡ Deleted k → AreGone k n st (delete_image n v st).1
  unfolding delete_image
  image_says n v k e = by_kept (kept_image st n v) refl e where
    by_kept : (o : Option Kept) → kept_image st n v ≡ o → (delete_kept v o st).0 ≡ Deleted k → AreGone k n st (delete_kept v o st).1
    by_kept None f e = absurd cc
    by_kept (Some x) f e =
        let known = kept_point n (row_of st n) (point_in n (history_of st v).images) x (λ r g. row_number n st.sets r g) f in
        let same = deleted_same 1 k e in
        let stands : has_image n (at st.volumes v) ≡ true = ap is_some known.1 in
        (subst (λ j. 0 < j) same (omega arith), sym same ∙ sym (one_lost n 0 v st.volumes stands) ∙ ap (λ m. length (volumes_losing n 0 st.volumes (change_at v (dropped m) st.volumes))) (sym known.0))

-- ## every act

after_line : (s : Plan) (so_far : List Act) (act : Act) (event : Event) (P : State → Type 0) → act.event ≡ event → enabled s (state s so_far) event ≡ true
    → P (happens s event act.mark (state s so_far)).1 → P (after s (state s so_far) act)
after_line s so_far act event P e on h = grind (arith, after_enabled)

pub answers_say : (s : Plan) (so_far : List Act) (act : Act) → AnswersSay s so_far act
answers_say s so_far act =
    let st = state s so_far in
    record {
      written = λ lane op t e f. line_reply s st act (Line lane op) e ∙ line_says s st lane op t act.mark f;
      ticked = λ lane n e. line_reply s st act (Line lane (Tick n)) e;
      idled = λ n e on f.
          clock_after s st act ∙ ap (λ b. st.clock + ticks_if b st act.event) on ∙ ap (λ x. st.clock + ticks_if true st x) e
          ∙ ap (λ k. st.clock + k) (grind (arith, sym (line_reply s st act Idle e) ∙ f));
      stepped = λ g v fault e f. step_says (open_group (left_now st)) (next_volume (left_now st)) act.mark g v fault (sym (line_reply s st act Provider e) ∙ f);
      deleted_set = λ lane n k e f. after_line s so_far act (Line lane (DeleteSet n)) (AreGone k n st) e refl (set_says st n k (sym (line_reply s st act (Line lane (DeleteSet n)) e) ∙ f));
      deleted_image = λ lane n v k e f. after_line s so_far act (Line lane (DeleteImage n v)) (AreGone k n st) e refl
          (image_says st n v k (sym (line_reply s st act (Line lane (DeleteImage n v)) e) ∙ f));
    }
