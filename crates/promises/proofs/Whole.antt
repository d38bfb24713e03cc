-- A set that completes has come the whole way: what its agenda's log keeps in order, and that nothing of it is left out.
use Rattle.std.proofs.Common.{◌≡◌, ◌∙◌, ℕ, ◌==◌, ◌≤◌, List, [], ◌∷◌, ◌++◌, ◌⊎◌, Option, Some, None, refl, Bool, true, false, ap, sym, subst, inl, inr, map, arith}
use Rattle.std.specs.Prelude.{◌&&◌, ◌||◌, not, is_some}
use Rattle.promises.proofs.Words.{list_any, list_any-append, Order, PrepareSnapshot, Freeze, Thaw, PostSnapshot, Said, is_ok, Group, Orders, PreCommit, Flush}
use Rattle.promises.proofs.Words.{Hold, Cut, Commit, Release, PostCommit, Snapshot, Member, Place, is_member, fails_set, Plan, in_progress, Act, state}
use Rattle.promises.proofs.Words.{said_stays, IsOf, Tied, tied, true_not_false, waits_members, and_from, false_from_ne_true, or_left, or_right, Agenda, Entry}
use Rattle.promises.proofs.Words.{Open, plain, places, group_code, level_code, same_place, order_of, is_orders, has_said, writers_at, members_of, waited_for}
use Rattle.promises.proofs.Words.{left_from, groups_left, open_place, is_among, waits_now, is_done, at_place, all_say, Deed, level_of, stage, Rising, is_heard}
use Rattle.promises.proofs.Words.{is_agreed, is_made, is_again, AreOnce, heard, agreed, made, IsWholeWay, CompletesByTheWay, Spoke, number_is}
use Rattle.promises.proofs.Words.{unless, all_said, either_way, filter_passes, waits_unsaid}
use Rattle.set_agenda.specs.Agenda.{has_failed}
use Rattle.promises.specs.Way.{failed}
use Rattle.promises.proofs.Members.{same_number}
use Rattle.promises.proofs.Along.{IsKeptAlong, last_stand}
use Rattle.promises.proofs.Levels.{Ascends, MembersOf, levels_are, members_ascend}
use Rattle.promises.proofs.Speaks.{deed_at, deed_in, said_at, Speaks, IsOne}
use Rattle.promises.proofs.Stages.{deeds_in, deeds_append, any_more, any_said, group_stage, place_stage, leveled, IsOfLevel, open_stage, Below, below_more}
use Rattle.promises.proofs.Stages.{below_append, rising_append, stages_more, closed_stays, goes_up, Closed, closed_below, snapshot_from}
use Rattle.promises.proofs.Orders.{said_deed, place_of, volume_number, Good, good_unspoken, steps_plain, open_plain, order_member, heard_writer, made_volume}
use Rattle.promises.proofs.Orders.{alone, is_step, agreed_at, post_group, heard_group, heard_agreed, all_among, heard_at, prepare_heard, freeze_heard}
use Rattle.promises.proofs.Orders.{thaw_heard, of_group_level, levels_given, open_leveled}
use Rattle.promises.proofs.Once.{once_one, Apart, once_spoken, waits_apart, none_given, open_unleveled, level_some, is_order_place}
use Rattle.promises.proofs.Scripts.{kept_among}

-- ## one more is said

pub waits_in : (ws : List ℕ) (a : Agenda) → Speaks a ws → (w : ℕ) → is_among w ws ≡ true → is_among w (waits_now (groups_left a)) ≡ true
waits_in ws a x2 w e = grind (arith, number_is)

-- nobody is waited for where no group is left
none_left : (os : List Open) (ws : List ℕ) → ((w : ℕ) → is_among w ws ≡ true → is_among w (waits_now os) ≡ true) → (ws ≡ []) ⊎ (open_stage os ≡ place_stage (open_place os))
none_left [] [] h = inl refl
none_left [] (w ∷ ws) h = absurd (no_one (h w (or_left (w == w) (is_among w ws) (same_number w)))) where
  no_one : is_among w [] ≡ true → ⊥
  no_one e = cc
none_left (o ∷ os) ws h = inr refl

module _ (s : Plan) (said : Said) (now : ℕ) (ws : List ℕ) (a : Agenda) (k : a.kind ≡ Snapshot) (who : Speaks a ws)
    (mild : (fails_set (order_of (open_place (groups_left a)).group) && not (is_ok said)) ≡ false) (g : Good s a) where
  abbrev more : Agenda
  more = all_say said now ws a

  abbrev os : List Open
  os = groups_left a

  abbrev p : Place
  p = open_place os

  snapshot_left : (x : Agenda) → x.kind ≡ Snapshot → groups_left x ≡ left_from x (places Snapshot)
  snapshot_left x e = ap (λ j. left_from x (places j)) e

  open_goes_up : open_stage os ≤ open_stage (groups_left more)
  open_goes_up =
      let up = goes_up a more 0 (places Snapshot) snapshot_from (closed_stays said now ws a) in
      subst (λ n. n ≤ open_stage (groups_left more)) (sym (ap open_stage (snapshot_left a k)))
      (subst (λ n. open_stage (left_from a (places Snapshot)) ≤ n) (sym (ap open_stage (snapshot_left more k))) up)

  member_at : (u : ℕ) → is_among u ws ≡ true → is_among u (members_of a p.group p.level) ≡ true
  member_at u e = waits_members a (places a.kind) u (waits_in ws a who u e)

  level_given : leveled p.group ≡ true → is_some p.level ≡ true
  level_given = grind (arith, snapshot_left, open_leveled, levels_given)

  own_levels : MembersOf (level_of s) a.members → (u : ℕ) → is_among u ws ≡ true → IsOfLevel s p u
  own_levels lv u f e = of_group_level s a p.group p.level u lv (member_at u f) e (level_given e)

  stage_below : MembersOf (level_of s) a.members → (ws ≡ []) ⊎ (open_stage os ≡ place_stage p)
      → Rising (map (stage s) (deeds_in more)) × Below (open_stage (groups_left more)) (map (stage s) (deeds_in more))
  stage_below lv (inl e) =
      let same : map (stage s) (deeds_in a) ≡ map (stage s) (deeds_in more) = nothing (map (stage s) (deeds_in a))
      ∙ ap (λ us. map (stage s) (deeds_in a) ++ map (λ (w : ℕ). place_stage p) us) (sym e) ∙ sym (stages_more s a.log p said now ws (own_levels lv)) in
      (subst Rising same (g.rising lv), subst (Below (open_stage (groups_left more))) same (below_more (open_stage os) (open_stage (groups_left more)) _ open_goes_up (g.below lv)))
    where
      nothing : (ns : List ℕ) → ns ≡ ns ++ []
      nothing [] = refl
      nothing (n ∷ ns) = ap (λ xs. n ∷ xs) (nothing ns)
  stage_below lv (inr e) =
      let same : map (stage s) (deeds_in a) ++ map (λ (w : ℕ). place_stage p) ws ≡ map (stage s) (deeds_in more) = sym (stages_more s a.log p said now ws (own_levels lv)) in
      let under : Below (place_stage p) (map (stage s) (deeds_in a)) = subst (λ n. Below n (map (stage s) (deeds_in a))) e (g.below lv) in (
        subst Rising same (rising_append (map (stage s) (deeds_in a)) (place_stage p) ws (g.rising lv) under),
        subst (Below (open_stage (groups_left more))) same
            (below_append (open_stage (groups_left more)) (map (stage s) (deeds_in a)) ws (place_stage p) (below_more (open_stage os) (open_stage (groups_left more)) _ open_goes_up (g.below lv))
            (subst (λ n. n ≤ open_stage (groups_left more)) e open_goes_up)),
      )

  -- what holds of the deeds so far, and of those that come
  old_or_new : (test : Deed → Bool) (c : Bool) → list_any test (deeds_in more) ≡ true → (list_any test (deeds_in a) ≡ true → c ≡ true)
      → ((u : ℕ) → is_among u ws ≡ true → test (deed_at p.group u said now) ≡ true → c ≡ true) → c ≡ true
  old_or_new test c e f h =
      either_way (list_any test (deeds_in a)) (list_any test (map deed_in (said_at os said now ws))) c
      (sym (any_more test a.log (said_at os said now ws)) ∙ e) f (λ i. any_said test p said now ws (c ≡ true) h i)

  still : (test : Deed → Bool) → list_any test (deeds_in a) ≡ true → list_any test (deeds_in more) ≡ true
  still test e = any_more test a.log (said_at os said now ws) ∙ or_left (list_any test (deeds_in a)) _ e

  newly : (test : Deed → Bool) (u : ℕ) → is_among u ws ≡ true → test (deed_at p.group u said now) ≡ true → list_any test (deeds_in more) ≡ true
  newly test u e f = any_more test a.log (said_at os said now ws) ∙ or_right (list_any test (deeds_in a)) _ (told_one ws e) where
    told_one : (us : List ℕ) → is_among u us ≡ true → list_any test (map deed_in (map (at_place p said now) us)) ≡ true
    told_one [] e = absurd cc
    told_one (x ∷ us) e = by_head (x == u) refl e (told_one us) where
      by_head : (b : Bool) → (x == u) ≡ b → (b || is_among u us) ≡ true
          → (is_among u us ≡ true → list_any test (map deed_in (map (at_place p said now) us)) ≡ true)
          → (test (deed_at p.group x said now) || list_any test (map deed_in (map (at_place p said now) us))) ≡ true
      by_head b i e ih = grind (arith, or_left, number_is, or_right)

  plain_place : is_orders p.group ≡ false → p ≡ plain p.group
  plain_place e = grind (arith, snapshot_left, open_plain, steps_plain)

  -- a new step goes into the log
  log_new : (u : ℕ) → is_among u ws ≡ true → has_said more.log p u ≡ true
  log_new u e =
      list_any-append (λ (x : Entry). same_place x.place p && (x.who == u)) a.log (said_at os said now ws) ∙ or_right (has_said a.log p u) _ (said_one ws e)
    where
      own_place : (q : Place) → same_place q q ≡ true
      own_place q = and_from (group_code q.group == group_code q.group) (level_code q.level == level_code q.level) (same_number (group_code q.group)) (same_number (level_code q.level))

      said_one : (us : List ℕ) → is_among u us ≡ true → has_said (map (at_place p said now) us) p u ≡ true
      said_one [] e = absurd cc
      said_one (x ∷ us) e = by_head (x == u) e (said_one us) where
        by_head : (b : Bool) → (b || is_among u us) ≡ true → (is_among u us ≡ true → has_said (map (at_place p said now) us) p u ≡ true)
            → ((same_place p p && b) || has_said (map (at_place p said now) us) p u) ≡ true
        by_head true e ih = or_left (same_place p p && true) _ (and_from (same_place p p) true (own_place p) refl)
        by_head false e ih = or_right (same_place p p && false) _ (ih e)

  logs : (h : Group) (v : Option ℕ) → made h v (deeds_in more) ≡ true → has_said more.log (plain h) (volume_number v) ≡ true
  logs h v e =
      old_or_new (is_made h v) (has_said more.log (plain h) (volume_number v)) e
      (λ f. said_stays a.log (said_at os said now ws) (plain h) (volume_number v) (g.logged h v f))
      (λ u f i.
      let step = is_step h v p.group a p.level u said now (member_at u f) i in
      subst (λ x. has_said more.log (plain h) x ≡ true) step.number (subst (λ (q : Place). has_said more.log q u ≡ true) (plain_place step.step ∙ ap plain step.group) (log_new u f)))

  -- no step comes again
  fresh_at : (u : ℕ) (h : Group) (v : Option ℕ) → is_among u (waits_now os) ≡ true → p.group ≡ h → is_orders h ≡ false → u ≡ volume_number v → made h v (deeds_in a) ≡ false
  fresh_at u h v w e s n =
      let place : p ≡ plain h = plain_place (ap is_orders e ∙ s) ∙ ap plain e in
      let not_yet : has_said a.log (plain h) (volume_number v)
      ≡ false = subst (λ (q : Place). has_said a.log q (volume_number v) ≡ false) place
      (subst (λ x. has_said a.log p x ≡ false) n (waits_unsaid a (places a.kind) u w)) in
      false_from_ne_true (made h v (deeds_in a)) (λ i. true_not_false (has_said a.log (plain h) (volume_number v)) (g.logged h v i) not_yet)

  writer_place : MembersOf (level_of s) a.members → (u : ℕ) (o : Order) → is_among u ws ≡ true → p.group ≡ Orders o → p ≡ place_of s o u
  writer_place lv u o f e = grind (arith, is_order_place, level_some, level_given, own_levels, snapshot_left, open_unleveled, none_given)

  speaks_new : MembersOf (level_of s) a.members → (order : Order) (w : ℕ) → heard order w (deeds_in more) ≡ true → has_said more.log (place_of s order w) w ≡ true
  speaks_new lv order w e =
      old_or_new (is_heard order w) (has_said more.log (place_of s order w) w) e
      (λ f. said_stays a.log (said_at os said now ws) (place_of s order w) w (g.spoken lv order w f))
      (λ u f i.
      let own = heard_group order p.group w u said now i in
      subst (λ x. has_said more.log (place_of s order x) x ≡ true) own.1 (subst (λ (q : Place). has_said more.log q u ≡ true) (writer_place lv u order f own.0) (log_new u f)))

  not_heard : MembersOf (level_of s) a.members → (o : Order) → p.group ≡ Orders o → (u : ℕ) → is_among u ws ≡ true → heard o u (deeds_in a) ≡ false
  not_heard lv o e u f =
      let not_yet : has_said a.log (place_of s o u) u ≡ false = subst (λ (q : Place). has_said a.log q u ≡ false) (writer_place lv u o f e) (waits_unsaid a (places a.kind) u (waits_in ws a who u f)) in
      false_from_ne_true (heard o u (deeds_in a)) (λ i. true_not_false (has_said a.log (place_of s o u) u) (g.spoken lv o u i) not_yet)

  spoken_deeds : (o : Order) (us : List ℕ) → p.group ≡ Orders o → map (λ u. Spoke o u said now) us ≡ map deed_in (map (at_place p said now) us)
  spoken_deeds o [] e = refl
  spoken_deeds o (u ∷ us) e = ap (λ h. deed_at h u said now ∷ map (λ x. Spoke o x said now) us) (sym e) ∙ ap (λ ds. deed_at p.group u said now ∷ ds) (spoken_deeds o us e)

  once_orders : MembersOf (level_of s) a.members → Ascends 0 a.members → (o : Order) → p.group ≡ Orders o → Apart ws → AreOnce (deeds_in more)
  once_orders lv up o e apart =
      subst AreOnce (sym (deeds_append a.log (said_at os said now ws) ∙ ap (λ ds. deeds_in a ++ ds) (sym (spoken_deeds o ws e))))
      (once_spoken (deeds_in a) o said now ws (g.once lv up) apart (not_heard lv o e))

  once_step : MembersOf (level_of s) a.members → Ascends 0 a.members → (o : IsOne a ws) → list_any (λ x. is_again (deed_at p.group o.one said now) x) (deeds_in a) ≡ false → AreOnce (deeds_in more)
  once_step lv up o f = grind (arith, deeds_append, once_one)

  fresh_step : (u : ℕ) (h : Group) → is_orders h ≡ false → is_among u (waits_now os) ≡ true → is_among u (members_of a h p.level) ≡ true → p.group ≡ h
      → list_any (λ x. is_again (deed_at h u said now) x) (deeds_in a) ≡ false
  fresh_step u (Orders o) f w m e = absurd cc
  fresh_step u PreCommit f w m e = fresh_at u PreCommit None w e refl (alone u m)
  fresh_step u Flush f w m e = fresh_at u Flush (Some u) w e refl refl
  fresh_step u Hold f w m e = fresh_at u Hold (Some u) w e refl refl
  fresh_step u Cut f w m e = fresh_at u Cut None w e refl (alone u m)
  fresh_step u Commit f w m e = fresh_at u Commit (Some u) w e refl refl
  fresh_step u Release f w m e = fresh_at u Release (Some u) w e refl refl
  fresh_step u PostCommit f w m e = fresh_at u PostCommit None w e refl (alone u m)

  one_apart : IsOne a ws → Apart ws
  one_apart o = subst Apart (sym o.is) (refl, tt)

  by_group : MembersOf (level_of s) a.members → Ascends 0 a.members → (h : Group) → p.group ≡ h → Speaks a ws → AreOnce (deeds_in more)
  by_group lv up (Orders x) e (inl o) = once_orders lv up x e (one_apart o)
  by_group lv up (Orders x) e (inr o) = once_orders lv up x e (subst Apart (sym o.is) (waits_apart a (places a.kind) x up e))
  by_group lv up h e (inr o) = absurd (true_not_false (is_orders p.group) o.writers (ap is_orders e))
  by_group lv up h e (inl o) = once_step lv up o (fresh_step o.one p.group (ap is_orders e) o.waits (waits_members a (places a.kind) o.one o.waits) refl)

  -- consent
  consents : (order : Order) (w : ℕ) → fails_set (Some order) ≡ true → heard order w (deeds_in more) ≡ true → agreed order w (deeds_in more) ≡ true
  consents order w d e =
      old_or_new (is_heard order w) (agreed order w (deeds_in more)) e
      (λ f. still (is_agreed order w) (g.consent order w d f))
      (λ u f i. newly (is_agreed order w) u f (agreed_at p.group order w u said now i mild d))

  -- who is asked after the thaw
  thawed_first : (w : ℕ) → heard PostSnapshot w (deeds_in more) ≡ true → agreed Thaw w (deeds_in more) ≡ true
  thawed_first w e =
      old_or_new (is_heard PostSnapshot w) (agreed Thaw w (deeds_in more)) e
      (λ f. still (is_agreed Thaw w) (g.told_after w f))
      (λ u f i.
      let post = post_group p.group w u said now i in
      still (is_agreed Thaw w) (thaw_at u w f post.0 post.1 (none_left os ws (waits_in ws a who)))) where
        thaw_at : (u w : ℕ) → is_among u ws ≡ true → p.group ≡ Orders PostSnapshot → u ≡ w → (ws ≡ []) ⊎ (open_stage os ≡ place_stage p) → agreed Thaw w (deeds_in a) ≡ true
        thaw_at u w f e s (inl n) = absurd (grind (arith, subst (λ xs. is_among u xs ≡ true) n f))
        thaw_at u w f e s (inr n) =
            let member = subst (λ x. is_among x (members_of a (Orders PostSnapshot) p.level) ≡ true) s (subst (λ h. is_among u (members_of a h p.level) ≡ true) e (member_at u f)) in
            let at : open_stage (left_from a (places Snapshot)) ≡ 14 = sym (ap open_stage (snapshot_left a k)) ∙ n ∙ ap (λ h. group_stage h p.level) e in
            let closed = subst (λ m. Closed a m (places Snapshot)) at (closed_below a 0 (places Snapshot) snapshot_from) in
            heard_agreed a.log w (unless (has_failed a.log w) (filter_passes (λ x. not (has_failed a.log x)) w (writers_at a.members p.level) member))
            (thaw_heard a 14 (omega arith) closed w (order_member PostSnapshot a p.level w member))

  says_good : Good s (all_say said now ws a)
  says_good =
      let stages : MembersOf (level_of s) a.members
      → Rising (map (stage s) (deeds_in more))
      × Below (open_stage (groups_left more)) (map (stage s) (deeds_in more)) = λ lv. stage_below lv (none_left os ws (waits_in ws a who)) in
      record {
        rising = λ lv. (stages lv).0;
        below = λ lv. (stages lv).1;
        once = λ lv up. by_group lv up p.group refl who;
        spoken = speaks_new;
        logged = logs;
        of_participants = λ order w e. old_or_new (is_heard order w) (is_member a.members w) e (g.of_participants order w)
            (λ u f i. heard_writer order w p.group a p.level u said now (member_at u f) i);
        of_volumes = λ h v e. old_or_new (is_made h (Some v)) (is_among v a.volumes) e (g.of_volumes h v) (λ u f i. made_volume h v p.group a p.level u said now (member_at u f) i);
        consent = consents;
        told_after = thawed_first;
      }

same_failed : (log : List Entry) (w : ℕ) → has_failed log w ≡ failed w (map deed_in log)
same_failed [] w = refl
same_failed (x ∷ log) w = grind (arith, same_failed log w)

post_heard : (a : Agenda) → Closed a 15 (places Snapshot) → (w : ℕ) → is_member a.members w ≡ true → failed w (deeds_in a) ≡ false → heard PostSnapshot w (deeds_in a) ≡ true
post_heard a c w e f =
    heard_at a PostSnapshot None w
    (kept_among (λ x. not (has_failed a.log x)) w (writers_at a.members None) (ap not (same_failed a.log w ∙ f)) (all_among a.members w e))
    (c.1.1.1.1.1.1.1.1.1.1.1.1.1.1.0 (omega arith))

pub good_along : (s : Plan) → IsKeptAlong (Good s)
good_along s = record { begins = good_unspoken s; says = λ said now ws a k who mild g. says_good s said now ws a k who mild g }

-- ## the end

none_open : (os : List Open) → is_done os ≡ true → open_stage os ≡ 15
none_open os e = grind arith

-- each member of a closed group of steps has made its step
made_all : (a : Agenda) (g : Group) (v : Option ℕ) → is_among (volume_number v) (members_of a g None) ≡ true
    → ((said : Said) (now u : ℕ) → (u == volume_number v) ≡ true → is_made g v (deed_at g u said now) ≡ true)
    → waited_for a (plain g) ≡ [] → made g v (deeds_in a) ≡ true
made_all a g v m test e = said_deed a.log (plain g) (volume_number v) (is_made g v) test (all_said a.log (plain g) (members_of a g None) (volume_number v) e m)

whole_way : (s : Plan) (a : Agenda) (participants : List Member) (volumes : List ℕ) → a.kind ≡ Snapshot → is_done (groups_left a) ≡ true
    → a.members ≡ participants → a.volumes ≡ volumes → MembersOf (level_of s) participants → Ascends 0 participants → Good s a
    → IsWholeWay s participants volumes (deeds_in a)
whole_way s a participants volumes k d m v lv up g =
    let at : open_stage (left_from a (places Snapshot)) ≡ 15 = sym (ap open_stage (ap (λ j. left_from a (places j)) k)) ∙ none_open (groups_left a) d in
    let closed = subst (λ n. Closed a n (places Snapshot)) at (closed_below a 0 (places Snapshot) snapshot_from) in
    let member : (w : ℕ) → is_member participants w ≡ true → is_member a.members w ≡ true = λ w e. subst (λ ms. is_member ms w ≡ true) (sym m) e in
    let volume : (u : ℕ) → is_among u volumes ≡ true → is_among u a.volumes ≡ true = λ u e. subst (λ us. is_among u us ≡ true) (sym v) e in
    record {
      in_order = g.rising (subst (MembersOf (level_of s)) (sym m) lv);
      once = g.once (subst (MembersOf (level_of s)) (sym m) lv) (subst (Ascends 0) (sym m) up);
      prepared = λ w e. g.consent PrepareSnapshot w refl (prepare_heard a 15 (omega arith) closed w (member w e));
      frozen = λ w e. g.consent Freeze w refl (freeze_heard a 15 (omega arith) closed w (member w e));
      pre_commit = made_all a PreCommit None refl (λ said now u e. refl) (closed.1.1.1.1.0 (omega arith));
      flushed = λ u e. made_all a Flush (Some u) (volume u e) (λ said now x f. f) (closed.1.1.1.1.1.0 (omega arith));
      held = λ u e. made_all a Hold (Some u) (volume u e) (λ said now x f. f) (closed.1.1.1.1.1.1.0 (omega arith));
      cut = made_all a Cut None refl (λ said now u e. refl) (closed.1.1.1.1.1.1.1.0 (omega arith));
      committed = λ u e. made_all a Commit (Some u) (volume u e) (λ said now x f. f) (closed.1.1.1.1.1.1.1.1.0 (omega arith));
      released = λ u e. made_all a Release (Some u) (volume u e) (λ said now x f. f) (closed.1.1.1.1.1.1.1.1.1.0 (omega arith));
      post_commit = made_all a PostCommit None refl (λ said now u e. refl) (closed.1.1.1.1.1.1.1.1.1.1.0 (omega arith));
      thawed = λ w e. thaw_heard a 15 (omega arith) closed w (member w e);
      told_after = λ w e f. post_heard a closed w (member w e) f;
      told_no_failed = λ w e. false_from_ne_true (heard PostSnapshot w (deeds_in a)) (λ f. true_not_false (agreed Thaw w (deeds_in a)) (g.told_after w f) e);
      of_participants = λ order w e. subst (λ ms. is_member ms w ≡ true) m (g.of_participants order w e);
      of_volumes = λ h u e. subst (λ us. is_among u us ≡ true) v (g.of_volumes h u e);
    }

pub complete_by_the_way : (s : Plan) (so_far : List Act) (act : Act) → CompletesByTheWay s so_far act
complete_by_the_way s so_far act r q e f h =
    let st = state s so_far in
    let l = last_stand (Good s) (good_along s) s so_far act r q e f h in
    let set : Tied (Some l.before) st.course.members (in_progress st) = subst (λ x. Tied x st.course.members (in_progress st)) l.is (tied s so_far) in
    let of : IsOf Snapshot l.before.volumes l.before.members st.course.members (Some r) =
    subst (λ x. IsOf Snapshot l.before.volumes l.before.members st.course.members x) e (subst (λ j. IsOf j l.before.volumes l.before.members st.course.members (in_progress st)) l.kind set) in
    subst (IsWholeWay s st.course.members r.volumes) l.deeds_are
    (whole_way s l.last st.course.members r.volumes l.last_kind l.done (l.members ∙ of.1) (l.volumes ∙ of.0) (levels_are s so_far)
    (members_ascend s so_far) l.good)
