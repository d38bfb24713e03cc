use Rattle.std.proofs.Common.{◌≡◌, ◌∙◌, length, rules, sym}
use Rattle.vss_play.proofs.Serving.{given_back}
use Rattle.vss_play.proofs.service.Service.ask.Goals as goal

pub invariant_of-self : goal.invariant_of-self
invariant_of-self g c =
    let given = c.self.inside.given in
    let full : length given.items ≡ given.len = search rules in
    let once = given_back given.len c.tell_aborts.new.given given.items full in
    let twice = given_back given.len c.first_answer.new.given _ once in
    record {
      of = c.self.invariant.of;
      standing = c.self.invariant.standing;
      many = c.self.invariant.many;
      most = c.self.invariant.most;
      each = twice ∙ sym full ∙ c.self.invariant.each;
    }
