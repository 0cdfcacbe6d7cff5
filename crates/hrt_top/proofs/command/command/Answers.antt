use Rattle.std.proofs.Common.{◌≡◌, ap, ap₂, ◌∙◌, codes, true, rules}
use Rattle.std.proofs.lemmas.Result.{IfOk-weaker}
use Rattle.clap.specs.Simple.{app_of_fields, on_top}
use Rattle.clap.specs.Words.{App, Shape, app_of, new_app, with_rule, with_subcommand}
use Rattle.hrt_top.specs.Command.{program, required_option}
use Rattle.hrt_top.proofs.command.command.Goals as goal

pub returns : goal.returns
returns c =
    let one : app_of c.in_ok-arg.field-0 ≡ with_rule (new_app (codes "gen")) (required_option (codes "seed")) =
    c.in_ok-arg.ensures.shape c.required.ensures.local ∙ ap₂ with_rule c.new.ensures.app c.required.ensures.rule in
    let two : app_of c.in_ok-arg-2.field-0 ≡ with_rule (with_rule (new_app (codes "gen")) (required_option (codes "seed"))) (required_option (codes "lanes")) =
    c.in_ok-arg-2.ensures.shape c.required-2.ensures.local ∙ ap₂ with_rule one c.required-2.ensures.rule in
    let make : app_of c.in_ok-make.make
    ≡ with_rule (with_rule (with_rule (new_app (codes "gen")) (required_option (codes "seed"))) (required_option (codes "lanes")))
    (required_option (codes "calls")) =
    c.in_ok-make.ensures.shape c.required-3.ensures.local ∙ ap₂ with_rule two c.required-3.ensures.rule in
    let needs : App → App = on_top (λ (s : Shape). record s { subcommand_required = true }) in
    let top : app_of c.subcommand_required.result ≡ needs (new_app (codes "hrt")) =
    ap app_of_fields c.subcommand_required.ensures ∙ ap needs c.new-2.ensures.app in
    let with_run = c.in_ok-subcommand.ensures.shape c.new-run.ensures.local
    ∙ ap₂ with_subcommand top (ap (λ (a : App). a.top) c.new-run.ensures.app) in
    IfOk-weaker c.subcommand-2.result _ (λ r. app_of r ≡ program)
    (λ r adds. adds.shape (search rules) ∙ ap₂ with_subcommand with_run (ap (λ (a : App). a.top) make)) c.subcommand-2.ensures
