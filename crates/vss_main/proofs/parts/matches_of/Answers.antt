use Rattle.std.proofs.Common.{rules, ap, ap₂, codes, map, ◌≡◌, ◌∙◌}
use Rattle.std.specs.Prelude.{string_bytes}
use Rattle.std.proofs.lemmas.Result.{IfErr-weaker, IfOk-weaker}
use Rattle.clap.specs.Matches.{found_of}
use Rattle.clap.specs.Walk.{first_of, rule_of}
use Rattle.clap.specs.Simple.{app_of_fields, app_of, is_simple, matches_of, new_rule, on_top, with_rule}
use Rattle.clap.specs.Takes.{takes}
use Rattle.clap.proofs.WalkLemmas.{first_value-rows}
use Rattle.vss_main.proofs.Parting.{no_name, no_help, parser, is_simple_parser, parted_words}
use Rattle.vss_main.proofs.parts.matches_of.Goals as goal

pub returns : goal.returns
returns c =
    let bare_is = ap app_of_fields c.no_binary_name-bare.ensures ∙ ap (on_top no_name) c.new-named.ensures.app in
    let plain_is = ap app_of_fields c.disable_help_flag-plain.ensures ∙ ap (on_top no_help) bare_is in
    let first_is : rule_of c.new-first.result ≡ new_rule (codes "first") = search rules in
    let second_is : rule_of c.new-second.result ≡ new_rule (codes "second") = search rules in
    let third_is : rule_of c.new-third.result ≡ new_rule (codes "third") = search rules in
    let one_is = c.in_ok-one.ensures.shape (search rules) ∙ ap₂ with_rule plain_is first_is in
    let two_is = c.in_ok-two.ensures.shape (search rules) ∙ ap₂ with_rule one_is second_is in
    let is : app_of c.in_ok-parser.parser ≡ parser = c.in_ok-parser.ensures.shape (search rules) ∙ ap₂ with_rule two_is third_is in
    let words = map string_bytes c.args.words.now in
    let parts = parted_words words c.requires in
    let parse = c.try_get_matches_from in
    record {
      first = IfOk-weaker parse.result _ _ (λ m h. first_value-rows (found_of m) (codes "first") ∙ ap (first_of (codes "first")) ((h (ap is_simple is ∙ is_simple_parser)).0 ∙ ap (λ a. matches_of a words) is) ∙ parts.first) parse.ensures.matches;
      second = IfOk-weaker parse.result _ _ (λ m h. first_value-rows (found_of m) (codes "second") ∙ ap (first_of (codes "second")) ((h (ap is_simple is ∙ is_simple_parser)).0 ∙ ap (λ a. matches_of a words) is) ∙ parts.second) parse.ensures.matches;
      third = IfOk-weaker parse.result _ _ (λ m h. first_value-rows (found_of m) (codes "third") ∙ ap (first_of (codes "third")) ((h (ap is_simple is ∙ is_simple_parser)).0 ∙ ap (λ a. matches_of a words) is) ∙ parts.third) parse.ensures.matches;
      err = IfErr-weaker parse.result _ _ (λ e h. h (ap (λ a. takes a words) is ∙ parts.taken)) parse.ensures.passes;
    }
