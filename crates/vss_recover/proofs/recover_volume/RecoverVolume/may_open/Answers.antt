use Rattle.std.proofs.Common.{◌≡◌, ◌<◌, ◌∙◌, true, ap, sym, subst, arith}
use Rattle.cow_volume.specs.Calls.{is_among}
use Rattle.cow_volume.specs.OneVolume.{image_sets}
use Rattle.vss_recover.specs.Steps.{IsNewest}
use Rattle.vss_recover.proofs.InParts.{newest_there}
use Rattle.vss_recover.proofs.recover_volume.RecoverVolume.may_open.Goals as goal

pub returns-then-newest-set-clause-cause : goal.returns-then-newest-set-clause-cause
returns-then-newest-set-clause-cause g c = λ claims.
    let among : is_among c.args.set (image_sets c.args.self.now.volume) ≡ true = sym c.has_image.ensures ∙ c.if-not-has_image.false in
    let some : 0 < c.args.set = (let e = c.if-set-eq0.false in omega arith) in (
      (some, among),
      newest_there (image_sets c.args.self.now.volume) c.images-images.result.now c.args.set
          (c.images-images.ensures.images ∙ ap (λ v. image_sets v.volume) c.self.view_is) among,
      c.if-newest-set.true,
    )

pub returns-in-Some-clause-cause : goal.returns-in-Some-clause-cause
returns-in-Some-clause-cause g c = λ claims.
    let among : is_among c.args.set (image_sets c.args.self.now.volume) ≡ true = sym c.has_image.ensures ∙ c.if-not-has_image.false in
    let some : 0 < c.args.set = (let e = c.if-set-eq0.false in omega arith) in
    let newest = newest_there (image_sets c.args.self.now.volume) c.images-images.result.now c.args.set (c.images-images.ensures.images ∙ ap (λ v. image_sets v.volume) c.self.view_is) among in
    (((some, among), subst (IsNewest (image_sets c.args.self.now.volume)) c.if-newest-set.false newest), ap (λ v. v.window) (sym c.self.view_is) ∙ c.in-Some.is)

pub returns-then-contains-clause-cause : goal.returns-then-contains-clause-cause
returns-then-contains-clause-cause g c = λ claims.
    let among : is_among c.args.set (image_sets c.args.self.now.volume) ≡ true = sym c.has_image.ensures ∙ c.if-not-has_image.false in
    let some : 0 < c.args.set = (let e = c.if-set-eq0.false in omega arith) in
    let newest = newest_there (image_sets c.args.self.now.volume) c.images-images.result.now c.args.set (c.images-images.ensures.images ∙ ap (λ v. image_sets v.volume) c.self.view_is) among in (
      ((some, among), subst (IsNewest (image_sets c.args.self.now.volume)) c.if-newest-set.false newest),
      ap (λ v. v.window) (sym c.self.view_is) ∙ c.in_default.is,
      ap (λ v. is_among c.args.set v.final) (sym c.self.view_is) ∙ ap (is_among c.args.set) (sym c.deref.ensures.value) ∙ sym c.contains.ensures.value ∙ c.if-contains.true,
    )

pub returns-clause-may : goal.returns-clause-may
returns-clause-may g c =
    let among : is_among c.args.set (image_sets c.args.self.now.volume) ≡ true = sym c.has_image.ensures ∙ c.if-not-has_image.false in
    let some : 0 < c.args.set = (let e = c.if-set-eq0.false in omega arith) in
    let newest = newest_there (image_sets c.args.self.now.volume) c.images-images.result.now c.args.set (c.images-images.ensures.images ∙ ap (λ v. image_sets v.volume) c.self.view_is) among in (
      ((some, among), subst (IsNewest (image_sets c.args.self.now.volume)) c.if-newest-set.false newest),
      ap (λ v. v.window) (sym c.self.view_is) ∙ c.in_default.is,
      ap (λ v. is_among c.args.set v.final) (sym c.self.view_is) ∙ ap (is_among c.args.set) (sym c.deref.ensures.value) ∙ sym c.contains.ensures.value ∙ c.if-contains.false,
    )
