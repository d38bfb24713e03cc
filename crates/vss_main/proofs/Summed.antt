-- A run of a generated scenario, from its beginning to the devices that are given back, and its summary.
use Rattle.std.proofs.Common.{◌≡◌, ℕ, zero, suc, ◌+◌, ◌<◌, ◌≤◌, List, [], ◌∷◌, length, map, refl, ap, ap₂, sym, ◌∙◌, arith, Bool, true, false, cond, Option, Some, None, subst, inl, inr}
use Rattle.std.specs.Prelude.{◌||◌, slice_get, ◌⊎◌, Result, Ok, Err}
use Rattle.std.specs.List.{concat, range_with_len, list_any}
use Rattle.std.proofs.lemmas.List.Sums.{sum_by-cons}
use Rattle.std.proofs.lemmas.Option.{slice_get_past, slice_get_within}
use Rattle.vss_names.specs.Faults.{Rose, most}
use Rattle.block_data.specs.BlockBytes.{sha256}
use Rattle.volume_device.specs.declared.device.Device.{Ghosts}
use Rattle.write_history.specs.declared.move_item.Move.{Move}
use Rattle.write_history.specs.History.{Write, contents}
use Rattle.scenario.specs.declared.volume_row.VolumeRow.{VolumeRow}
use Rattle.scenario.specs.declared.reason.Reason.{Reason}
use Rattle.scenario.specs.Plan.{Plan, blocks_in, blocks_of}
use Rattle.scenario.specs.declared.refused.Refused.{Refused}
use Rattle.scenario.specs.declared.refused.Refused.TheVariants.{Line}
use Rattle.scenario.specs.Grammar.{reading_of, IsScenario, IsBad, IsRefusal}
use Rattle.generated.specs.ScenarioText.{gen_text}
use Rattle.generated.specs.Scenario.{IsRead, Shape, shape_of, own_shape, IsGenerated}
use Rattle.generated.specs.Contents.{final_blocks, summary_with, final_digest, final_digests}
use Rattle.vss_model.specs.Outcome.{IsDigestIf}
use Rattle.vss_model.specs.Trail.{is_fault, is_legal, is_complete, faults}
use Rattle.vss_report.specs.ToldLines.{all_tell}
use Rattle.vss_report.proofs.Joined.{digest_if}
use Rattle.generated.proofs.Ending.{ends_in_blocks, ends_well}
use Rattle.vss_play.specs.declared.play_fault.PlayFault.{PlayFault}
use Rattle.vss_play.specs.Acting.{IsPlayedInThreads}
use Rattle.vss_play.specs.Closing.{history_after, AreDigests, bytes_after}
use Rattle.vss_play.specs.Played.{Played, AreNamed, device_names, IsFresh, tells_in, AnyRose}
use Rattle.vss_play.proofs.Histories.{played_to_the_end}
use Rattle.vss_play.proofs.FaultMarks.{rose-positive, rose-counted, member-le-sum}
use Rattle.vss_main.specs.Outside.{AroundMaker}
use Rattle.vss_main.specs.TopCall.{IsOwnTrail}
use Rattle.vss_main.specs.Generated.{IsOfNumber, AreEight, IsSummed, IsDigested, IsDigestedTo}
use Rattle.vss_main.proofs.Ran.{IsWhole, same_plan, own_trail, ends_complete, all_told, made-of, marks_below, not_less}

length_map : {X Y : Type 0} (f : X → Y) (xs : List X) → length (map f xs) ≡ length xs
length_map f [] = refl
length_map f (x ∷ xs) = ap suc (length_map f xs)

-- ## the scenario, by the text that was parsed

pub short_as : (n : ℕ) (text : List ℕ) → text ≡ gen_text n → length (gen_text n) < 4294967295 → length text < 4294967295
short_as n text e short = subst (λ (bs : List ℕ). length bs < 4294967295) (sym e) short

pub of_number : (n : ℕ) (text : List ℕ) (s : Plan) → text ≡ gen_text n → reading_of text ≡ IsScenario s → ((plan : Plan) → reading_of (gen_text n) ≡ IsScenario plan → IsGenerated n plan)
    → IsOfNumber n s
of_number n text s e read law = let is : reading_of (gen_text n) ≡ IsScenario s = ap reading_of (sym e) ∙ read in record { read = is; generated = law s is }

not_bad : (n : ℕ) (text : List ℕ) (line : ℕ) (reason : Reason) → text ≡ gen_text n → IsRead n → reading_of text ≡ IsBad line reason → ⊥
not_bad n text line reason e read bad = neither read.plan line reason (sym read.read ∙ ap reading_of (sym e) ∙ bad)
  where
    neither : (s : Plan) (line : ℕ) (reason : Reason) → IsScenario s ≡ IsBad line reason → ⊥
    neither s line reason h = cc

pub not_refused : (n : ℕ) (text : List ℕ) (refused : Refused) (line : ℕ) (reason : Reason) → text ≡ gen_text n → IsRead n → IsRefusal text refused → refused ≡ Line line reason → ⊥
not_refused n text refused line reason e read h is = not_bad n text line reason e read (subst (λ (r : Refused). IsRefusal text r) is h)

-- ## eight volumes of 256 blocks

pub eight_volumes : (n : ℕ) (s : Plan) → IsGenerated n s → length s.volumes ≡ 8
eight_volumes n s g = sym (length_map shape_of s.volumes) ∙ ap length g.volumes

blocks_at : (rows : List VolumeRow) (gs : List ℕ) (v : ℕ) → map shape_of rows ≡ map own_shape gs → v < length rows → blocks_in (slice_get rows v) ≡ 256
blocks_at [] gs v e l = absurd (omega arith)
blocks_at (r ∷ rows) [] v e l = absurd cc
blocks_at (r ∷ rows) (g ∷ gs) zero e l = let h : shape_of r ≡ own_shape g = cc in ap (λ (x : Shape). x.blocks) h
blocks_at (r ∷ rows) (g ∷ gs) (suc v) e l = let h : map shape_of rows ≡ map own_shape gs = cc in blocks_at rows gs v h (omega arith)

-- ## their digests

not_untold : (rows : List VolumeRow) (v : ℕ) → slice_get (map (λ (r : VolumeRow). true) rows) v ≡ Some false → ⊥
not_untold [] v e = none (sym (slice_get_past {X = Bool} [] v (omega arith)) ∙ e)
  where
    none : None ≡ Some false → ⊥
    none h = cc
not_untold (r ∷ rows) zero e = cc
not_untold (r ∷ rows) (suc v) e = not_untold rows v e

by_told : (o : Option Bool) (bytes digest : List ℕ) → (o ≡ Some false → ⊥) → IsDigestIf o bytes digest → digest ≡ sha256 bytes
by_told None bytes digest told h = h
by_told (Some true) bytes digest told h = h
by_told (Some false) bytes digest told h = absurd (told refl)

final_is : (n v k : ℕ) (writes : List Write) (digest : List ℕ) → digest ≡ sha256 (concat (contents k writes (length writes))) → k ≡ 256 → contents 256 writes (length writes) ≡ final_blocks n v
    → digest ≡ final_digest n v
unfolding final_digest
final_is n v k writes digest e blocks ends = e ∙ ap (λ (m : ℕ). sha256 (concat (contents m writes (length writes)))) blocks ∙ ap (λ (bs : List (List ℕ)). sha256 (concat bs)) ends

all_are : (f : ℕ → List ℕ) (a : ℕ) (digests : List (List ℕ)) → ((v : ℕ) (digest : List ℕ) → slice_get digests v ≡ Some digest → digest ≡ f (a + v))
    → digests ≡ map f (range_with_len a (length digests))
all_are f a [] h = refl
all_are f a (d ∷ digests) h =
    ap₂ (λ (x : List ℕ) (xs : List (List ℕ)). x ∷ xs) (h 0 d refl ∙ ap f (omega arith))
    (all_are f (a + 1) digests (λ v digest is. h (suc v) digest is ∙ ap f (omega arith)))

digests_final : (n : ℕ) (s : Plan) (trail : List Move) (digests : List (List ℕ)) → IsGenerated n s → is_legal s trail ≡ true → is_complete s trail ≡ true → faults trail ≡ 0
    → AreDigests (all_tell s) s trail digests → length digests ≡ 8 → digests ≡ final_digests n
digests_final n s trail digests g legal complete clean are eight =
    let many = eight_volumes n s g in
    all_are (final_digest n) 0 digests (λ v digest is.
    let within : v < length digests = slice_get_within digests v digest is in
    let below : v < length s.volumes = omega arith in
    let told = by_told (slice_get (all_tell s) v) (bytes_after s trail v) digest (not_untold s.volumes v) (are v digest below is) in
    let same : v ≡ 0 + v = omega arith in
    subst (λ (w : ℕ). digest ≡ final_digest n w) same
    (final_is n v (blocks_of s v) (history_after s trail v).writes digest told (blocks_at s.volumes (range_with_len 0 8) v g.volumes below)
    (ends_in_blocks n s trail g legal complete clean v (omega arith))))
    ∙ ap (λ (k : ℕ). map (final_digest n) (range_with_len 0 k)) eight

are_eight : (tells : List Bool) (s : Plan) (trail : List Move) (digests : List (List ℕ)) → length digests ≡ 8 → length s.volumes ≡ 8 → AreDigests tells s trail digests → AreEight digests
are_eight tells s trail digests eight many are = record {
  eight = eight;
  long = λ v digest is. let within = slice_get_within digests v digest is in (digest_if (slice_get tells v) (bytes_after s trail v) digest (are v digest (omega arith) is)).long;
  bytes = λ v digest is. let within = slice_get_within digests v digest is in (digest_if (slice_get tells v) (bytes_after s trail v) digest (are v digest (omega arith) is)).bytes;
}

-- ## fault marks

unmarked_with : (b any : Bool) (n total : ℕ) → total ≡ cond b 1 0 + n → (b || any) ≡ false → (any ≡ false → n ≡ 0) → total ≡ 0
unmarked_with true any n total e h rest = absurd cc
unmarked_with false any n total e h rest = let none = rest h in omega arith

marked_with : (b any : Bool) (n total : ℕ) → total ≡ cond b 1 0 + n → (b || any) ≡ true → (any ≡ true → 1 ≤ n) → 1 ≤ total
marked_with true any n total e h rest = omega arith
marked_with false any n total e h rest = let l = rest h in omega arith

pub no_mark : (trail : List Move) → list_any (λ m. is_fault m.mark) trail ≡ false → faults trail ≡ 0
no_mark [] e = refl
no_mark (m ∷ trail) e =
    unmarked_with (is_fault m.mark) (list_any (λ (x : Move). is_fault x.mark) trail) (faults trail) (faults (m ∷ trail)) (sum_by-cons (λ (x : Move). cond (is_fault x.mark) 1 0) m trail) e
    (no_mark trail)

pub some_mark : (trail : List Move) → list_any (λ m. is_fault m.mark) trail ≡ true → 1 ≤ faults trail
some_mark [] e = absurd cc
some_mark (m ∷ trail) e =
    marked_with (is_fault m.mark) (list_any (λ (x : Move). is_fault x.mark) trail) (faults trail) (faults (m ∷ trail)) (sum_by-cons (λ (x : Move). cond (is_fault x.mark) 1 0) m trail) e
    (some_mark trail)

pub marked_as : (trail moves : List Move) (b : Bool) → moves ≡ trail → b ≡ list_any (λ m. is_fault m.mark) moves → b ≡ true → 1 ≤ faults trail
marked_as trail moves b same is e = some_mark trail (ap (list_any (λ m. is_fault m.mark)) (sym same) ∙ sym is ∙ e)

pub unmarked_as : (trail moves : List Move) (b : Bool) → moves ≡ trail → b ≡ list_any (λ m. is_fault m.mark) moves → b ≡ false → faults trail ≡ 0
unmarked_as trail moves b same is e = no_mark trail (ap (list_any (λ m. is_fault m.mark)) (sym same) ∙ sym is ∙ e)

-- ## the run

-- a run that was begun, played to its end and digested
pub whole-digested : {D : Type 0} {ghosts : Ghosts D} {tells : Bool} {named_first named_last : Option (List (List ℕ))}
    {kept_first kept_made kept_last : Option (List D)} {places first made last : ℕ} {s : Plan} {p q : Played D} {result : Result (List (List ℕ)) PlayFault}
    → IsFresh ghosts tells s p → AreNamed (device_names s) named_first named_last → made ≡ first → IsPlayedInThreads ghosts p q → length p.devices ≤ places → kept_made ≡ kept_first
    → (ended : IsDigested ghosts q places kept_made kept_last made last result)
    → IsWhole ghosts tells
    (record { named_first = named_first; named_last = named_last; kept_first = kept_first; kept_last = kept_last; count_first = first; count_last = last })
    kept_made places made s p q ended.new
whole-digested fresh named unmoved threads enough kept_new ended = record {
  fresh = fresh;
  named = named;
  unmoved = unmoved;
  played = played_to_the_end _ _ _ threads;
  threads = threads;
  enough = enough;
  kept_new = kept_new;
  quiet = ended.quiet;
  keeps = ended.keeps;
  kept = ended.kept;
  count_is = ended.count_is;
}

module _ {D : Type 0} {ghosts : Ghosts D} {tells : Bool} {a : AroundMaker D} {kept_made : Option (List D)} {places made : ℕ} {s : Plan} {p q r : Played D}
    (h : IsWhole ghosts tells a kept_made places made s p q r) where
  pub summed-of : (n : ℕ) (digests : List (List ℕ)) (text : List ℕ) → IsOfNumber n s → IsDigestedTo ghosts q r (Ok digests)
      → text ≡ summary_with n digests → IsSummed ghosts tells a n s text
  unfolding made-of
  summed-of n digests text of_number ends is =
      let same = same_plan h in
      let complete = ends_complete h in
      let legal = h.keeps.legal in
      let are : AreDigests (tells_in ghosts.told r) r.plan r.trail digests = ends.0 in
      let unmarked : faults r.trail ≡ 0 = ends.2 in
      let eight : length digests ≡ 8 = ends.4 in
      let generated : IsGenerated n r.plan = subst (λ (x : Plan). IsGenerated n x) (sym same) of_number.generated in
      subst (λ (x : Plan). IsSummed ghosts tells a n x text) same (record {
        made = made-of h ends.3;
        own = subst (λ (x : Plan). IsOwnTrail ghosts tells x r.trail) (sym same) (own_trail h);
        unmarked = unmarked;
        ends_well = ends_well n r.plan r.trail generated legal complete unmarked;
        digests = digests;
        are_digests = are_eight (tells_in ghosts.told r) r.plan r.trail digests eight (eight_volumes n r.plan generated) are;
        is_text = is;
        only = λ t. is ∙ ap (summary_with n) (digests_final n r.plan r.trail digests generated legal complete unmarked
            (subst (λ (ts : List Bool). AreDigests ts r.plan r.trail digests) (all_told h t) are) eight);
        areas = ends.1;
        left = ends.5;
      })

  -- no fault was counted
  pub none_counted : (digests : List (List ℕ)) → IsDigestedTo ghosts q r (Ok digests) → (a.count_last ≡ a.count_first) ⊎ (a.count_last ≡ most)
  unfolding made-of
  none_counted digests ends = (made-of h ends.3).clean ends.2

  -- ## a run without a summary

  fault-by : (AnyRose (map ghosts.count q.devices) (map ghosts.count r.devices)) ⊎ (1 ≤ faults r.trail) → Rose a.count_first a.count_last
  fault-by (inl any) =
      rose-counted a.count_first made a.count_last (map ghosts.count r.devices) any.now (rose-positive any.before any.now any.rose)
      (member-le-sum (map ghosts.count r.devices) any.at any.now any.is) (not_less h) h.count_is
  fault-by (inr one) = rose-counted a.count_first made a.count_last (map ghosts.count r.devices) (faults r.trail) (omega arith) (marks_below h) (not_less h) h.count_is

  pub fault-of : (result : Result (List (List ℕ)) PlayFault) (why : PlayFault) → IsDigestedTo ghosts q r result → result ≡ Err why → Rose a.count_first a.count_last
  fault-of result why ends e = fault-by (subst (λ (o : Result (List (List ℕ)) PlayFault). IsDigestedTo ghosts q r o) e ends)
