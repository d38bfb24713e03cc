use Rattle.std.proofs.Common.{ℕ, ◌≡◌, List, Option, Result, OnOk, Ok, Err, ap, ◌∙◌, sym, option_map, slice_set, length, vec_len, rules}
use Rattle.diff_area.specs.Format.{place_of_slot}
use Rattle.diff_area.proofs.Keeping.{keeps-copied}
use Rattle.diff_area.proofs.area.Area.copy_in.Goals as goal

at_place : {T E : Type 0} (r : Result T E) (told now : Option (List (List ℕ))) (p q : ℕ) (block : List ℕ) → OnOk r (now ≡ option_map (λ blocks. slice_set blocks p block) told) → p ≡ q → OnOk r (now ≡ option_map (λ blocks. slice_set blocks q block) told)
at_place (Ok x) told now p q block h e = h ∙ ap (λ n. option_map (λ blocks. slice_set blocks n block) told) e
at_place (Err x) told now p q block h e = tt

pub invariant_of-self : goal.invariant_of-self
invariant_of-self g c =
    let a = c.self.inside in
    let told = g.D.Device.told in
    let long : length a.records.items ≡ vec_len a.records = search rules in
    let place = c.place_of_slot-place.ensures ∙ ap (λ n. place_of_slot n c.args.slot) (c.len.ensures ∙ sym long) in
    keeps-copied g.D.Device.told g.D.Device.size a.device c.write.new.self a.volumes.items a.records.items a.changed.items a.page c.args.slot c.bytes.result.now c.write.result c.self.invariant (at_place c.write.result (told a.device) (told c.write.new.self) c.place_of_slot-place.result (place_of_slot (length a.records.items) c.args.slot) c.bytes.result.now c.write.ensures.written place) c.write.ensures.kept c.write.ensures.size
