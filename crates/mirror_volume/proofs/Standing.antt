-- What the calls on a volume with mirrors leave of the history that it stands for.
use Rattle.std.proofs.Common.{◌≡◌, ◌≢◌, ℕ, zero, suc, ◌+◌, ◌<◌, List, [], ◌∷◌, ◌++◌, length, replicate, refl, ap, sym, ◌∙◌, arith, Bool, true, false, Option, Some, None, subst, inl, inr}
use Rattle.std.specs.Prelude.{◌⊎◌, slice_get, slice_set, ◌==◌, not, filter, if◌then◌else◌, IfSome, is_some, is_none, map, option_map, All, Result, Ok, Err}
use Rattle.std.specs.List.{range_with_len}
use Rattle.std.proofs.lemmas.List.Elements.{All-head, All-tail}
use Rattle.std.proofs.lemmas.Option.{same_Some, slice_get_within}
use Rattle.std.proofs.lemmas.List.{length_push, map-append}
use Rattle.std.proofs.lemmas.Grind.{common_steps}
use Rattle.block_data.specs.BlockBytes.{zeros}
use Rattle.volume_device.specs.InMemory.{AreBlocks}
use Rattle.volume_device.specs.declared.device.Device.{Ghosts}
use Rattle.write_history.specs.History.{Write, Image, History, content, contents, point_in, sets_of, without_set, written, cut, dropped, fresh}
use Rattle.cow_volume.specs.Calls.{is_among}
use Rattle.cow_volume.specs.StandsFor.{told_in}
use Rattle.cow_volume.proofs.Group.{slice_get-set_same, slice_get-set_other, slice_get_inside, slice_get_map, same_number, other_number, number_is, number_is_other}
use Rattle.cow_volume.proofs.Reading.{contents_at}
use Rattle.cow_volume.proofs.Writing.{content-more, contents-more, content-before}
use Rattle.cow_volume.proofs.Merging.{sets_of-filter, and_right, was_row}
use Rattle.mirror_volume.specs.declared.mirror.Mirror.{Mirror}
use Rattle.mirror_volume.specs.Stale.{IsInStep, stale_count}
use Rattle.mirror_volume.specs.Mirrors.{MirrorValue, is_ready, mirror_over, EqualsPrimary, IsSplitAt, IsMirror, StandsFor, AreMirrors, AreHeld, holds_of}
use Rattle.mirror_volume.specs.MirrorCalls.{IsFollowed, IsLeft, IsMirrored, IsMissed, IsWritten, IsQuiet, IsQuietOn, IsSplit, IsJoined}
use Rattle.mirror_volume.specs.declared.synced.Synced.{Synced}
use Rattle.mirror_volume.specs.declared.synced.Synced.TheVariants.{Copied, InStep}
use Rattle.mirror_volume.specs.declared.sync_fault.SyncFault.{SyncFault}
use Rattle.mirror_volume.specs.declared.sync_fault.SyncFault.TheVariants.{HoldsImage, Volume as DeviceFailed}
use Rattle.mirror_volume.specs.Resync.{IsStep, IsSynced}
use Rattle.mirror_volume.proofs.Counts.{in_step_all, among_of_more, among_was}

-- ## what is told

-- what a mirror tells where the primary tells too: both tell
pub both_tell : (p d : Option (List (List ℕ))) (blocks : List (List ℕ)) → told_in p d ≡ Some blocks → (ps : List (List ℕ)) × (p ≡ Some ps) × (d ≡ Some blocks)
both_tell p d blocks e = grind arith

pub tell_both : (p d : Option (List (List ℕ))) (ps blocks : List (List ℕ)) → p ≡ Some ps → d ≡ Some blocks → told_in p d ≡ Some blocks
tell_both p d ps blocks e f = grind arith

-- what a device told before a block was written
pub put_was : (p : Option (List (List ℕ))) (b : ℕ) (bytes : List ℕ) (now : List (List ℕ)) → option_map (λ blocks. slice_set blocks b bytes) p ≡ Some now
    → (old : List (List ℕ)) × (p ≡ Some old) × (now ≡ slice_set old b bytes)
put_was p b bytes now e = grind arith

-- the primary tells now only where it told before
pub put_told : (p q : Option (List (List ℕ))) (b : ℕ) (bytes : List ℕ) (now : List (List ℕ)) → q ≡ option_map (λ blocks. slice_set blocks b bytes) p → q ≡ Some now
    → (old : List (List ℕ)) × (p ≡ Some old)
put_told p q b bytes now put tells = let was = put_was p b bytes now (sym put ∙ tells) in (was.0, was.1)

-- ## a write

no_bool : (b : ℕ) (stale : List Bool) → slice_get (slice_set stale b true) b ≡ Some false → b < length stale → ⊥
no_bool b stale at within = let found = slice_get_inside stale b within in grind (arith, common_steps, slice_get-set_same stale b found.0 true found.1)

-- a block that is not stale though b was marked is another
pub other_block : (b c : ℕ) (stale : List Bool) → b < length stale → IsInStep (slice_set stale b true) c → b ≢ c
other_block b c stale within step same = no_bool b stale (ap (slice_get (slice_set stale b true)) same ∙ step) within

content_other : (ws : List Write) (w : Write) (c : ℕ) → w.block ≢ c → content (ws ++ w ∷ []) (length (ws ++ w ∷ [])) c ≡ content ws (length ws) c
content_other ws w c other = content-more ws w c ∙ ap (λ (t : Bool). if t then w.bytes else content ws (length ws) c) (number_is_other w.block c other)

content_here : (ws : List Write) (w : Write) → content (ws ++ w ∷ []) (length (ws ++ w ∷ [])) w.block ≡ w.bytes
content_here ws w = content-more ws w w.block ∙ ap (λ (t : Bool). if t then w.bytes else content ws (length ws) w.block) (number_is w.block)

-- an image shows what it showed
split_more : (known now : Option (List (List ℕ))) (n set : ℕ) (h : History) (w : Write) → ((blocks : List (List ℕ)) → now ≡ Some blocks → known ≡ Some blocks)
    → IsSplitAt known n set h → IsSplitAt now n set (written w h)
split_more known now n set h w was at = grind (arith, length_push, content-before)

-- a mirror whose device is as it was, and which has the block stale
marked : (p q d : Option (List (List ℕ))) (n : ℕ) (holds : Option ℕ) (stale : List Bool) (h : History) (w : Write)
    → q ≡ option_map (λ blocks. slice_set blocks w.block w.bytes) p → w.block < length stale
    → IsMirror (told_in p d) n holds stale h → IsMirror (told_in q d) n holds (slice_set stale w.block true) (written w h)
marked p q d n holds stale h w put within mirror =
    grind (arith, common_steps, other_block w.block, slice_get-set_other stale w.block, content_other h.writes w, split_more (told_in p d) (told_in q d) n)

-- a mirror that got the block
mirrored : (p q d e : Option (List (List ℕ))) (n : ℕ) (stale : List Bool) (h : History) (w : Write)
    → q ≡ option_map (λ blocks. slice_set blocks w.block w.bytes) p → e ≡ option_map (λ blocks. slice_set blocks w.block w.bytes) d
    → IfSome d (AreBlocks n) → w.block < n
    → IsMirror (told_in p d) n None stale h → IsMirror (told_in q e) n None (slice_set stale w.block false) (written w h)
mirrored p q d e n stale h w put own whole low mirror = record {
  in_step = λ blocks c tells step.
      let both = both_tell q e blocks tells in
      let was = put_told p q w.block w.bytes both.0 put both.1 in
      let before = put_was d w.block w.bytes blocks (sym own ∙ both.2) in
      by_number blocks c before.0 was.0 was.1 before.1 before.2 (w.block == c) refl step;
  split = λ set holding. absurd (none set holding);
} where
  none : (set : ℕ) → None ≡ Some set → ⊥
  none set e = cc

  long : (x : Option (List (List ℕ))) (old : List (List ℕ)) → IfSome x (AreBlocks n) → x ≡ Some old → w.block < length old
  long None old are e = cc
  long (Some y) old are e = let same : y ≡ old = same_Some y old e in let number = are.number in subst (λ (bs : List (List ℕ)). w.block < length bs) same (omega arith)

  by_number : (blocks : List (List ℕ)) (c : ℕ) (old ps : List (List ℕ)) → p ≡ Some ps → d ≡ Some old → blocks ≡ slice_set old w.block w.bytes → (t : Bool) → (w.block == c) ≡ t
      → IsInStep (slice_set stale w.block false) c → slice_get blocks c ≡ Some (content (h.writes ++ w ∷ []) (length (h.writes ++ w ∷ [])) c)
  by_number blocks c old ps told tells now true is step =
      let same = same_number w.block c is in
      let found = slice_get_inside old w.block (long d old whole tells) in
      subst (λ (k : ℕ). slice_get blocks k ≡ Some (content (h.writes ++ w ∷ []) (length (h.writes ++ w ∷ [])) k)) same
      (ap (λ (bs : List (List ℕ)). slice_get bs w.block) now ∙ slice_get-set_same old w.block found.0 w.bytes found.1 ∙ ap Some (sym (content_here h.writes w)))
  by_number blocks c old ps told tells now false is step =
      let other = other_number w.block c is in
      ap (λ (bs : List (List ℕ)). slice_get bs c) now ∙ slice_get-set_other old w.block c w.bytes other
      ∙ mirror.in_step old c (tell_both p d ps old told tells) (sym (slice_get-set_other stale w.block c false other) ∙ step) ∙ ap Some (sym (content_other h.writes w c other))

pub same_mirror : (known new_known : Option (List (List ℕ))) (n : ℕ) (holds new_holds : Option ℕ) (stale new_stale : List Bool) (h : History)
    → known ≡ new_known → holds ≡ new_holds → stale ≡ new_stale → IsMirror known n holds stale h → IsMirror new_known n new_holds new_stale h
same_mirror known new_known n holds new_holds stale new_stale h is_known is_held is_stale mirror = grind arith

-- a mirror that followed
followed : {D : Type 0} → (ghosts : Ghosts D) (p q : Option (List (List ℕ))) (n : ℕ) (m next : Mirror D) (h : History) (w : Write)
    → q ≡ option_map (λ blocks. slice_set blocks w.block w.bytes) p → w.block < n → ghosts.size m.device ≡ n → length m.stale ≡ n
    → IsFollowed ghosts w.block w.bytes m next → IsMirror (told_in p (ghosts.told m.device)) n m.holds m.stale h → IsMirror (told_in q (ghosts.told next.device)) n next.holds next.stale (written w h)
followed {D = D} ghosts p q n m next h w put low sized long follow mirror = by_outcome follow.outcome where
  within : w.block < length m.stale
  within = omega arith

  by_outcome : IsLeft w.block m next ⊎ IsMirrored ghosts w.block w.bytes m next ⊎ IsMissed ghosts w.block m next → IsMirror (told_in q (ghosts.told next.device)) n next.holds next.stale (written w h)
  by_outcome (inl left) =
      same_mirror (told_in q (ghosts.told m.device)) (told_in q (ghosts.told next.device)) n m.holds next.holds (slice_set m.stale w.block true) next.stale (written w h)
      (ap (λ (d : D). told_in q (ghosts.told d)) (sym left.device)) (sym follow.holds) (sym left.stale) (marked p q (ghosts.told m.device) n m.holds m.stale h w put within mirror)
  by_outcome (inr (inl got)) =
      let unsplit = same_mirror (told_in p (ghosts.told m.device)) (told_in p (ghosts.told m.device)) n m.holds None m.stale m.stale h refl got.holds_none refl mirror in
      let whole = subst (λ (k : ℕ). IfSome (ghosts.told m.device) (AreBlocks k)) sized got.whole in
      same_mirror (told_in q (ghosts.told next.device)) (told_in q (ghosts.told next.device)) n None next.holds (slice_set m.stale w.block false) next.stale (written w h)
      refl (sym (follow.holds ∙ got.holds_none)) (sym got.stale) (mirrored p q (ghosts.told m.device) (ghosts.told next.device) n m.stale h w put got.told_is whole low unsplit)
  by_outcome (inr (inr missed)) =
      same_mirror (told_in q (ghosts.told m.device)) (told_in q (ghosts.told next.device)) n m.holds next.holds (slice_set m.stale w.block true) next.stale (written w h)
      (ap (λ (t : Option (List (List ℕ))). told_in q t) (sym missed.device.told_is)) (sym follow.holds) (sym missed.stale) (marked p q (ghosts.told m.device) n m.holds m.stale h w put within mirror)

put_contents : (p q : Option (List (List ℕ))) (n : ℕ) (ws : List Write) (w : Write) → w.block < n → q ≡ option_map (λ blocks. slice_set blocks w.block w.bytes) p
    → IfSome p (λ blocks. blocks ≡ contents n ws (length ws)) → IfSome q (λ blocks. blocks ≡ contents n (ws ++ w ∷ []) (length (ws ++ w ∷ [])))
put_contents p q n ws w low put is = grind (arith, contents-more)

pub written_stands : {D : Type 0} → (ghosts : Ghosts D) (old new : MirrorValue D) (w : Write) (h : History)
    → AreMirrors ghosts.size (ghosts.size old.primary) old.mirrors → IsWritten ghosts old new w → StandsFor ghosts old h → StandsFor ghosts new (written w h)
written_stands {D = D} ghosts old new w h are is stood = record {
  sets = is.images ∙ stood.sets;
  above_zero = λ set among. stood.above_zero set (ap (is_among set) (sym is.images) ∙ among);
  primary = subst (λ (n : ℕ). IfSome (ghosts.told new.primary) (λ blocks. blocks ≡ contents n (h.writes ++ w ∷ []) (length (h.writes ++ w ∷ [])))) (sym is.size_is)
      (put_contents (ghosts.told old.primary) (ghosts.told new.primary) (ghosts.size old.primary) h.writes w is.in_range is.told_is stood.primary);
  mirrors = λ k m at. mirror_at k m at;
} where
  mirror_at : (k : ℕ) (m : Mirror D) → slice_get new.mirrors k ≡ Some m → IsMirror (told_in (ghosts.told new.primary) (ghosts.told m.device)) (ghosts.size new.primary) m.holds m.stale (written w h)
  mirror_at k m at =
      let within = slice_get_within new.mirrors k m at in
      let was = slice_get_inside old.mirrors k (omega arith) in
      subst (λ (n : ℕ). IsMirror (told_in (ghosts.told new.primary) (ghosts.told m.device)) n m.holds m.stale (written w h)) (sym is.size_is)
      (followed ghosts (ghosts.told old.primary) (ghosts.told new.primary) (ghosts.size old.primary) was.0 m h w is.told_is is.in_range (are.sizes k was.0 was.1) (are.stale k was.0 was.1)
      (is.mirrors.each k was.0 m was.1 at) (stood.mirrors k was.0 was.1))

-- ## images

-- a set that stands among more images has the point that it had
point_more : (s p : ℕ) (images more : List Image) → point_in s images ≡ Some p → point_in s (images ++ more) ≡ Some p
point_more s p [] more at = cc
point_more s p (i ∷ images) more at = grind (arith, common_steps, point_more s p images more)

-- a set that did not stand has the point of its image at the end
point_new : (s p : ℕ) (images : List Image) → is_among s (sets_of images) ≡ false → point_in s (images ++ record { set = s; point = p } ∷ []) ≡ Some p
point_new s p [] none = ap (λ (t : Bool). if t then Some p else None) (number_is s)
point_new s p (i ∷ images) none = grind (arith, common_steps, point_new s p images)

-- the images but those of another set
point_without : (s set p : ℕ) (images : List Image) → s ≢ set → point_in s images ≡ Some p → point_in s (without_set set images) ≡ Some p
point_without s set p [] other at = cc
point_without s set p (i ∷ images) other at = grind (arith, common_steps, same_number, point_without s set p images other)

-- one mirror changes, and the history as f says; the primary tells what it told
one_changed : {D : Type 0} → (ghosts : Ghosts D) (old new : MirrorValue D) (h g : History) (k : ℕ) (m next : Mirror D)
    → StandsFor ghosts old h → g.writes ≡ h.writes → new.images ≡ sets_of g.images → ((set : ℕ) → is_among set new.images ≡ true → 0 < set) → ghosts.told new.primary ≡ ghosts.told old.primary
    → ghosts.size new.primary ≡ ghosts.size old.primary
    → slice_get old.mirrors k ≡ Some m → new.mirrors ≡ slice_set old.mirrors k next
    → IsMirror (told_in (ghosts.told old.primary) (ghosts.told next.device)) (ghosts.size old.primary) next.holds next.stale g
    → ((j : ℕ) (n : Mirror D) → j ≢ k → slice_get old.mirrors j ≡ Some n → IsMirror (told_in (ghosts.told old.primary) (ghosts.told n.device)) (ghosts.size old.primary) n.holds n.stale g)
    → StandsFor ghosts new g
one_changed ghosts old new h g k m next stood writes sets above tells sized was mirrors changed others = grind (arith, same_number, slice_get-set_same, same_Some, other_number, slice_get-set_other)

cut_split : (known : Option (List (List ℕ))) (n set s : ℕ) (h : History) → IsSplitAt known n s h → IsSplitAt known n s (cut set h)
cut_split known n set s h at = grind (arith, point_more)

cut_mirror : (known : Option (List (List ℕ))) (n set : ℕ) (holds : Option ℕ) (stale : List Bool) (h : History) → IsMirror known n holds stale h → IsMirror known n holds stale (cut set h)
cut_mirror known n set holds stale h mirror = record { in_step = mirror.in_step; split = λ s holding. cut_split known n set s h (mirror.split s holding) }

-- the mirror that is split off
split_off : (known : Option (List (List ℕ))) (n set : ℕ) (holds : Option ℕ) (stale : List Bool) (h : History) → is_among set (sets_of h.images) ≡ false → length stale ≡ n → stale_count stale ≡ 0
    → IsMirror known n holds stale h → IsMirror known n (Some set) stale (cut set h)
split_off known n set holds stale h new long none mirror = grind (arith, same_Some, point_new, in_step_all)

pub ready_holds : {D : Type 0} → (m : Mirror D) → is_ready m ≡ true → m.holds ≡ None
ready_holds m ready = grind arith

ready_count_is : {D : Type 0} → (m : Mirror D) → is_ready m ≡ true → stale_count m.stale ≡ 0
ready_count_is m ready = same_number (stale_count m.stale) 0 (and_right (is_none m.holds) (stale_count m.stale == 0) ready)

pub cut_stands : {D : Type 0} → (ghosts : Ghosts D) (old new : MirrorValue D) (set : ℕ) (h : History)
    → AreMirrors ghosts.size (ghosts.size old.primary) old.mirrors → is_among set old.images ≡ false → 0 < set → IsSplit old new set → StandsFor ghosts old h → StandsFor ghosts new (cut set h)
cut_stands {D = D} ghosts old new set h are fresh_set above is stood =
    one_changed ghosts old new h (cut set h) is.place is.split.mirror (record { device = is.split.mirror.device; holds = Some set; stale = is.split.mirror.stale })
    stood refl (is.images ∙ ap (λ (s : List ℕ). s ++ set ∷ []) stood.sets ∙ sym (map-append (λ (i : Image). i.set) h.images (record { set = set; point = length h.writes } ∷ [])))
    (λ s among. above_more s (among_of_more s set old.images (ap (is_among s) (sym is.images) ∙ among)))
    (ap ghosts.told is.primary) (ap ghosts.size is.primary) is.split.was is.mirrors
    (split_off (told_in (ghosts.told old.primary) (ghosts.told is.split.mirror.device)) (ghosts.size old.primary) set is.split.mirror.holds is.split.mirror.stale h
    (ap (is_among set) (sym stood.sets) ∙ fresh_set) (are.stale is.place is.split.mirror is.split.was) (ready_count_is is.split.mirror is.split.ready)
    (stood.mirrors is.place is.split.mirror is.split.was))
    (λ j n other at. cut_mirror (told_in (ghosts.told old.primary) (ghosts.told n.device)) (ghosts.size old.primary) set n.holds n.stale h (stood.mirrors j n at)) where
      above_more : (s : ℕ) → (s ≡ set) ⊎ (is_among s old.images ≡ true) → 0 < s
      above_more s (inl same) = omega arith
      above_more s (inr among) = stood.above_zero s among

drop_mirror : (known : Option (List (List ℕ))) (n set : ℕ) (holds : Option ℕ) (stale : List Bool) (h : History) → ((s : ℕ) → holds ≡ Some s → s ≢ set) → IsMirror known n holds stale h
    → IsMirror known n holds stale (dropped set h)
drop_mirror known n set holds stale h other mirror = record {
  in_step = mirror.in_step;
  split = λ s holding. let at = mirror.split s holding in record {
    point = at.point;
    stands = point_without s set at.point h.images (other s holding) at.stands;
    within = at.within;
    shows = at.shows;
  };
}

joined_mirror : (known : Option (List (List ℕ))) (n set : ℕ) (holds : Option ℕ) (stale : List Bool) (h : History) → IsMirror known n holds stale h → IsMirror known n None stale (dropped set h)
joined_mirror known n set holds stale h mirror = grind arith

pub dropped_stands : {D : Type 0} → (ghosts : Ghosts D) (old new : MirrorValue D) (set : ℕ) (h : History)
    → AreHeld (holds_of old.mirrors) old.images → IsJoined old new set → StandsFor ghosts old h → StandsFor ghosts new (dropped set h)
dropped_stands {D = D} ghosts old new set h held is stood =
    one_changed ghosts old new h (dropped set h) is.place is.mirror (record { device = is.mirror.device; holds = None; stale = is.mirror.stale })
    stood refl (is.images ∙ ap (filter (λ s. not (s == set))) stood.sets ∙ sets_of-filter (λ s. not (s == set)) h.images)
    (λ s among. stood.above_zero s (among_was s set old.images (ap (is_among s) (sym is.images) ∙ among)).1)
    (ap ghosts.told is.primary) (ap ghosts.size is.primary) is.was is.mirrors
    (joined_mirror (told_in (ghosts.told old.primary) (ghosts.told is.mirror.device)) (ghosts.size old.primary) set is.mirror.holds is.mirror.stale h (stood.mirrors is.place is.mirror is.was))
    (λ j n other at. drop_mirror (told_in (ghosts.told old.primary) (ghosts.told n.device)) (ghosts.size old.primary) set n.holds n.stale h (apart j n other at) (stood.mirrors j n at)) where
      apart : (j : ℕ) (n : Mirror D) → j ≢ is.place → slice_get old.mirrors j ≡ Some n → (s : ℕ) → n.holds ≡ Some s → s ≢ set
      apart j n other at s holding same =
          let here = slice_get_map (λ (m : Mirror D). m.holds) old.mirrors j n at ∙ ap Some (holding ∙ ap Some same) in
          let there = slice_get_map (λ (m : Mirror D). m.holds) old.mirrors is.place is.mirror is.was ∙ ap Some is.held in
          other (held.one j is.place set here there)

-- ## steps of a mirror

-- a mirror that got the primary's block
got_block : (p d e : Option (List (List ℕ))) (n b : ℕ) (bytes : List ℕ) (stale : List Bool) (h : History)
    → IfSome p (λ blocks. blocks ≡ contents n h.writes (length h.writes)) → IfSome p (λ blocks. slice_get blocks b ≡ Some bytes)
    → e ≡ option_map (λ blocks. slice_set blocks b bytes) d → IfSome d (AreBlocks n) → b < n
    → IsMirror (told_in p d) n None stale h → IsMirror (told_in p e) n None (slice_set stale b false) h
got_block p d e n b bytes stale h primary read own whole low mirror = record {
  in_step = λ blocks c tells step.
      let both = both_tell p e blocks tells in
      let before = put_was d b bytes blocks (sym own ∙ both.2) in
      by_number blocks c before.0 both.0 both.1 before.1 before.2 (b == c) refl step;
  split = λ set holding. absurd (none set holding);
} where
  none : (set : ℕ) → None ≡ Some set → ⊥
  none set e = cc

  long : (x : Option (List (List ℕ))) (old : List (List ℕ)) → IfSome x (AreBlocks n) → x ≡ Some old → b < length old
  long None old are e = cc
  long (Some y) old are e = let same : y ≡ old = same_Some y old e in let number = are.number in subst (λ (bs : List (List ℕ)). b < length bs) same (omega arith)

  is_content : (x : Option (List (List ℕ))) (ps : List (List ℕ)) → x ≡ Some ps → IfSome x (λ blocks. blocks ≡ contents n h.writes (length h.writes))
      → IfSome x (λ blocks. slice_get blocks b ≡ Some bytes)
      → Some bytes ≡ Some (content h.writes (length h.writes) b)
  is_content None ps e are at = cc
  is_content (Some y) ps e are at = sym at ∙ ap (λ (bs : List (List ℕ)). slice_get bs b) are ∙ contents_at n h.writes (length h.writes) b low

  by_number : (blocks : List (List ℕ)) (c : ℕ) (old ps : List (List ℕ)) → p ≡ Some ps → d ≡ Some old → blocks ≡ slice_set old b bytes → (t : Bool) → (b == c) ≡ t
      → IsInStep (slice_set stale b false) c → slice_get blocks c ≡ Some (content h.writes (length h.writes) c)
  by_number blocks c old ps told tells now true is step =
      let same = same_number b c is in
      let found = slice_get_inside old b (long d old whole tells) in
      subst (λ (k : ℕ). slice_get blocks k ≡ Some (content h.writes (length h.writes) k)) same
      (ap (λ (bs : List (List ℕ)). slice_get bs b) now ∙ slice_get-set_same old b found.0 bytes found.1 ∙ is_content p ps told primary read)
  by_number blocks c old ps told tells now false is step =
      let other = other_number b c is in
      ap (λ (bs : List (List ℕ)). slice_get bs c) now ∙ slice_get-set_other old b c bytes other
      ∙ mirror.in_step old c (tell_both p d ps old told tells) (sym (slice_get-set_other stale b c false other) ∙ step)

-- a step of mirror k
pub synced_stands : {D : Type 0} → (ghosts : Ghosts D) (old new : MirrorValue D) (k : ℕ) (result : Result Synced SyncFault) (h : History)
    → AreMirrors ghosts.size (ghosts.size old.primary) old.mirrors → IsSynced ghosts old new k result → StandsFor ghosts old h → StandsFor ghosts new h
synced_stands {D = D} ghosts old new k result h are is stood = by_step result is.step where
  was : IsMirror (told_in (ghosts.told old.primary) (ghosts.told is.before.device)) (ghosts.size old.primary) is.before.holds is.before.stale h
  was = stood.mirrors k is.before is.was

  changed : (tells : ghosts.told new.primary ≡ ghosts.told old.primary) → ghosts.size new.primary ≡ ghosts.size old.primary
      → IsMirror (told_in (ghosts.told old.primary) (ghosts.told is.after.device)) (ghosts.size old.primary) is.after.holds is.after.stale h → StandsFor ghosts new h
  changed tells sized mirror = one_changed ghosts old new h h k is.before is.after stood refl (is.images ∙ stood.sets)
      (λ set among. stood.above_zero set (ap (is_among set) (sym is.images) ∙ among)) tells sized is.was is.mirrors mirror (λ j n other at. stood.mirrors j n at)

  same : (now_primary : D) → new.primary ≡ old.primary → is.after ≡ is.before → StandsFor ghosts new h
  same now_primary primary mirror =
      changed (ap ghosts.told primary) (ap ghosts.size primary)
      (subst (λ (m : Mirror D). IsMirror (told_in (ghosts.told old.primary) (ghosts.told m.device)) (ghosts.size old.primary) m.holds m.stale h) (sym mirror) was)

  by_step : (r : Result Synced SyncFault) → IsStep ghosts old.primary new.primary is.before is.after r → StandsFor ghosts new h
  by_step (Ok (Copied b)) step =
      let low : b < ghosts.size old.primary = (let within = slice_get_within is.before.stale b true step.lowest.is_stale in let long = are.stale k is.before is.was in omega arith) in
      let unsplit = same_mirror (told_in (ghosts.told old.primary) (ghosts.told is.before.device)) (told_in (ghosts.told old.primary) (ghosts.told is.before.device))
      (ghosts.size old.primary) is.before.holds None is.before.stale is.before.stale h refl step.holds_none refl was in
      let whole = subst (λ (n : ℕ). IfSome (ghosts.told is.before.device) (AreBlocks n)) (are.sizes k is.before is.was) step.copied.whole in
      changed step.copied.source.told_is step.copied.source.size_is
      (same_mirror (told_in (ghosts.told old.primary) (ghosts.told is.after.device)) (told_in (ghosts.told old.primary) (ghosts.told is.after.device)) (ghosts.size old.primary) None is.after.holds
      (slice_set is.before.stale b false) is.after.stale h
      refl (sym (step.holds ∙ step.holds_none)) (sym step.stale)
      (got_block (ghosts.told old.primary) (ghosts.told is.before.device) (ghosts.told is.after.device)
      (ghosts.size old.primary) b step.copied.bytes is.before.stale h stood.primary step.copied.read step.copied.told_is whole low unsplit))
  by_step (Ok InStep) step = same old.primary step.primary_is step.mirror_is
  by_step (Err (HoldsImage set)) step = same old.primary step.primary_is step.mirror_is
  by_step (Err DeviceFailed) step =
      changed step.uncopied.source.told_is step.uncopied.source.size_is
      (same_mirror (told_in (ghosts.told old.primary) (ghosts.told is.before.device)) (told_in (ghosts.told old.primary) (ghosts.told is.after.device))
      (ghosts.size old.primary) is.before.holds is.after.holds is.before.stale is.after.stale h
      (ap (λ (t : Option (List (List ℕ))). told_in (ghosts.told old.primary) t) (sym step.uncopied.target.told_is)) (sym step.holds) (sym step.stale) was)

-- ## calls that change nothing

pub quiet_stands : {D : Type 0} → (ghosts : Ghosts D) (old new : MirrorValue D) (h : History) → IsQuiet ghosts old new → StandsFor ghosts old h → StandsFor ghosts new h
quiet_stands ghosts old new h is stood = grind arith

pub quiet_on_stands : {D : Type 0} → (ghosts : Ghosts D) (old new : MirrorValue D) (k : ℕ) (m : Mirror D) (h : History) → IsQuietOn ghosts old new k m → StandsFor ghosts old h → StandsFor ghosts new h
quiet_on_stands {D = D} ghosts old new k m h is stood =
    one_changed ghosts old new h h k m (record { device = is.after; holds = m.holds; stale = m.stale }) stood refl (is.images ∙ stood.sets)
    (λ set among. stood.above_zero set (ap (is_among set) (sym is.images) ∙ among)) (ap ghosts.told is.primary) (ap ghosts.size is.primary) is.was is.mirrors
    (same_mirror (told_in (ghosts.told old.primary) (ghosts.told m.device)) (told_in (ghosts.told old.primary) (ghosts.told is.after)) (ghosts.size old.primary) m.holds m.holds m.stale m.stale h
    (ap (λ (t : Option (List (List ℕ))). told_in (ghosts.told old.primary) t) (sym is.device.told_is)) refl refl (stood.mirrors k m is.was))
    (λ j n other at. stood.mirrors j n at)

-- ## a new volume

pub zeros-range : (a n : ℕ) → replicate n zeros ≡ map (content [] 0) (range_with_len a n)
zeros-range a zero = refl
zeros-range a (suc n) = ap (λ (bs : List (List ℕ)). zeros ∷ bs) (zeros-range (a + 1) n)

fresh_told : (told : Option (List (List ℕ))) (n : ℕ) → IfSome told (λ blocks. blocks ≡ replicate n zeros) → IfSome told (λ blocks. blocks ≡ contents n [] 0)
fresh_told told n held = grind (arith, zeros-range)

in_step_low : (n b : ℕ) → IsInStep (replicate n false) b → b < n
in_step_low zero b at = cc
in_step_low (suc n) zero at = omega arith
in_step_low (suc n) (suc b) at = let low = in_step_low n b at in omega arith

fresh_mirror : (p d : Option (List (List ℕ))) (n : ℕ) → IfSome d (λ blocks. blocks ≡ replicate n zeros) → IsMirror (told_in p d) n None (replicate n false) fresh
fresh_mirror p d n zero_blocks = grind (arith, both_tell, fresh_told, in_step_low, same_Some, contents_at)

pub All-at : {X : Type 0} → (P : X → Type 0) (xs : List X) (k : ℕ) (x : X) → All P xs → slice_get xs k ≡ Some x → P x
All-at P [] k x all at = cc
All-at P (y ∷ xs) zero x all at = subst P (same_Some y x at) (All-head P y xs all)
All-at P (y ∷ xs) (suc k) x all at = All-at P xs k x (All-tail P y xs all) at

pub fresh_stands : {D : Type 0} → (ghosts : Ghosts D) (primary : D) (devices : List D) → All (λ d. ghosts.size d ≡ ghosts.size primary) devices
    → IfSome (ghosts.told primary) (λ blocks. blocks ≡ replicate (ghosts.size primary) zeros) → All (λ d. IfSome (ghosts.told d) (λ blocks. blocks ≡ replicate (ghosts.size d) zeros)) devices
    → StandsFor ghosts (record { primary = primary; mirrors = map (mirror_over false (ghosts.size primary)) devices; images = [] }) fresh
fresh_stands {D = D} ghosts primary devices sized primary_zeros mirror_zeros = record {
  sets = refl;
  above_zero = λ set among. absurd (never among);
  primary = fresh_told (ghosts.told primary) (ghosts.size primary) primary_zeros;
  mirrors = λ k m at. mirror_at k m at;
} where
  never : false ≡ true → ⊥
  never e = cc

  mirror_at : (k : ℕ) (m : Mirror D) → slice_get (map (mirror_over false (ghosts.size primary)) devices) k ≡ Some m
      → IsMirror (told_in (ghosts.told primary) (ghosts.told m.device)) (ghosts.size primary) m.holds m.stale fresh
  mirror_at k m at =
      let was = was_row (mirror_over false (ghosts.size primary)) devices k m at in
      let is_size = All-at (λ (d : D). ghosts.size d ≡ ghosts.size primary) devices k was.0 sized was.1 in
      let are_zeros = All-at (λ (d : D). IfSome (ghosts.told d) (λ blocks. blocks ≡ replicate (ghosts.size d) zeros)) devices k was.0 mirror_zeros was.1 in
      subst (λ (x : Mirror D). IsMirror (told_in (ghosts.told primary) (ghosts.told x.device)) (ghosts.size primary) x.holds x.stale fresh) was.2
      (fresh_mirror (ghosts.told primary) (ghosts.told was.0) (ghosts.size primary) (subst (λ (n : ℕ). IfSome (ghosts.told was.0) (λ blocks. blocks ≡ replicate n zeros)) is_size are_zeros))

-- ## a volume taken up again

no_step : (n b : ℕ) → IsInStep (replicate n true) b → ⊥
no_step zero b at = cc
no_step (suc n) zero at = cc
no_step (suc n) (suc b) at = no_step n b at

stale_mirror : (known : Option (List (List ℕ))) (n : ℕ) (h : History) → IsMirror known n None (replicate n true) h
stale_mirror known n h = grind (arith, no_step)

-- it stands for each history without images whose content its primary has
pub resumed_stands : {D : Type 0} → (ghosts : Ghosts D) (primary : D) (devices : List D) (h : History) → h.images ≡ []
    → IfSome (ghosts.told primary) (λ blocks. blocks ≡ contents (ghosts.size primary) h.writes (length h.writes))
    → StandsFor ghosts (record { primary = primary; mirrors = map (mirror_over true (ghosts.size primary)) devices; images = [] }) h
resumed_stands {D = D} ghosts primary devices h none primary_is = record {
  sets = sym (ap sets_of none);
  above_zero = λ set among. absurd (never among);
  primary = primary_is;
  mirrors = λ k m at. let was = was_row (mirror_over true (ghosts.size primary)) devices k m at in
      subst (λ (x : Mirror D). IsMirror (told_in (ghosts.told primary) (ghosts.told x.device)) (ghosts.size primary) x.holds x.stale h) was.2
      (stale_mirror (told_in (ghosts.told primary) (ghosts.told was.0)) (ghosts.size primary) h);
} where
  never : false ≡ true → ⊥
  never e = cc

-- ## what is read

pub now_bytes : (p : Option (List (List ℕ))) (n b : ℕ) (bytes : List ℕ) (h : History) → IfSome p (λ blocks. blocks ≡ contents n h.writes (length h.writes))
    → IfSome p (λ blocks. slice_get blocks b ≡ Some bytes) → b < n → is_some p ≡ true
    → bytes ≡ content h.writes (length h.writes) b
now_bytes p n b bytes h are at low tells = grind (arith, same_Some, contents_at)

pub shown_bytes : (p d : Option (List (List ℕ))) (n b set point : ℕ) (bytes : List ℕ) (holds : Option ℕ) (stale : List Bool) (h : History) → IsMirror (told_in p d) n holds stale h → holds ≡ Some set
    → point_in set h.images ≡ Some point
    → IfSome d (λ blocks. slice_get blocks b ≡ Some bytes) → b < n → is_some p ≡ true → is_some d ≡ true → bytes ≡ content h.writes point b
shown_bytes None d n b set point bytes holds stale h mirror held at read low tells own = cc
shown_bytes (Some ps) None n b set point bytes holds stale h mirror held at read low tells own = cc
shown_bytes (Some ps) (Some blocks) n b set point bytes holds stale h mirror held at read low tells own =
    let split = mirror.split set held in let same = same_Some split.point point (sym split.stands ∙ at) in grind (arith, common_steps, same_Some)

-- a block that is not stale is the primary's
pub equals_primary : {D : Type 0} → (ghosts : Ghosts D) (v : MirrorValue D) (k : ℕ) (h : History) → AreMirrors ghosts.size (ghosts.size v.primary) v.mirrors → StandsFor ghosts v h
    → EqualsPrimary ghosts.told v k
equals_primary {D = D} ghosts v k h are stood = λ m blocks own b at tells also step.
    let low : b < ghosts.size v.primary = (let within = slice_get_within m.stale b false step in let long = are.stale k m at in omega arith) in
    let mirror = stood.mirrors k m at in
    mirror.in_step own b (tell_both (ghosts.told v.primary) (ghosts.told m.device) blocks own tells also) step
    ∙ sym (primary_at (ghosts.told v.primary) blocks b tells stood.primary low) where
      primary_at : (x : Option (List (List ℕ))) (blocks : List (List ℕ)) (b : ℕ) → x ≡ Some blocks → IfSome x (λ bs. bs ≡ contents (ghosts.size v.primary) h.writes (length h.writes))
          → b < ghosts.size v.primary → slice_get blocks b ≡ Some (content h.writes (length h.writes) b)
      primary_at None blocks b e are low = cc
      primary_at (Some y) blocks b e are low = ap (λ (bs : List (List ℕ)). slice_get bs b) (sym (same_Some y blocks e) ∙ are) ∙ contents_at (ghosts.size v.primary) h.writes (length h.writes) b low
