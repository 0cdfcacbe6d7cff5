use Rattle.std.proofs.Common.{ap, ◌∙◌}
use Rattle.clap.specs.Words.{found_of, rows_of}
use Rattle.clap.proofs.WalkLemmas.{first_value-rows}
use Rattle.script_text.specs.Reading.{number_in}
use Rattle.hrt_top.proofs.Asking.{not_given, not_read, outside, within}
use Rattle.hrt_top.proofs.command.option_number.Goals as goal

pub returns-in_err-get_str-clause-number : goal.returns-in_err-get_str-clause-number
returns-in_err-get_str-clause-number c =
    let found = found_of c.args.options.now in
    c.from_residual.ensures
    ∙ not_given c.args.name.now c.args.least c.args.most (rows_of found) (c.in_err-get_str.ensures ∙ first_value-rows found c.args.name.now)

pub returns-in_err-n-clause-number : goal.returns-in_err-n-clause-number
returns-in_err-n-clause-number c =
    let found = found_of c.args.options.now in
    c.from_residual-in_err-n.ensures
    ∙ not_read c.args.name.now c.args.least c.args.most (rows_of found) c.in_ok-get_str.field-0.now
    (c.in_ok-get_str.ensures ∙ first_value-rows found c.args.name.now) (c.in_err-n.ensures ∙ ap number_in c.as_bytes.ensures.value)

pub returns-then-n-most-clause-number : goal.returns-then-n-most-clause-number
returns-then-n-most-clause-number c =
    let found = found_of c.args.options.now in
    within c.args.name.now c.args.least c.args.most (rows_of found) c.in_ok-get_str.field-0.now c.in_ok-n.n
    (c.in_ok-get_str.ensures ∙ first_value-rows found c.args.name.now) (c.in_ok-n.ensures ∙ ap number_in c.as_bytes.ensures.value)
    c.if-least-n.true c.if-n-most.true

pub returns-else-least-n-clause-number : goal.returns-else-least-n-clause-number
returns-else-least-n-clause-number c =
    let found = found_of c.args.options.now in
    outside c.args.name.now c.args.least c.args.most (rows_of found) c.in_ok-get_str.field-0.now c.in_ok-n.n
    (c.in_ok-get_str.ensures ∙ first_value-rows found c.args.name.now) (c.in_ok-n.ensures ∙ ap number_in c.as_bytes.ensures.value)
    c.else-least-n.either
