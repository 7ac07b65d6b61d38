-- What `clap` reads is the value that the grammar gives, and what it refuses has none.
use Rattle.std.proofs.Common.{◌≡◌, rules, ap, ◌∙◌}
use Rattle.std.proofs.lemmas.Result.{IfOk-weaker}
use Rattle.clap.specs.Words.{app_of, is_simple_and_free}
use Rattle.command_words.proofs.OptionLemmas.{app, built_up, free, value_found, value_refused}
use Rattle.command_words.proofs.options.value_in.Goals as goal

pub returns-in-Ok : goal.returns-in-Ok
returns-in-Ok c =
    let o = c.args.option.now in
    let is : app_of c.in_ok-command.command ≡ app o =
    built_up c.new-2.result c.no_binary_name.result c.disable_help_flag.result c.in_ok-command.command o c.action-argument.result
    c.new-2.ensures.app c.no_binary_name.ensures c.disable_help_flag.ensures (search rules) (search rules) c.in_ok-command.ensures in
    let passes = c.in-Ok.ensures.kinds (ap is_simple_and_free is ∙ free o) in
    let found = value_found o c.args.words.now (app_of c.in_ok-command.command) c.in-Ok.matches is c.requires.name c.requires.few c.requires.plain passes c.in-Ok.ensures.matches in
    IfOk-weaker c.copied.result _ _ (λ value same. same ∙ c.get_str.ensures ∙ found) c.copied.ensures

pub returns-in-Err-2 : goal.returns-in-Err-2
returns-in-Err-2 c =
    let o = c.args.option.now in
    let is : app_of c.in_ok-command.command ≡ app o =
    built_up c.new-2.result c.no_binary_name.result c.disable_help_flag.result c.in_ok-command.command o c.action-argument.result
    c.new-2.ensures.app c.no_binary_name.ensures c.disable_help_flag.ensures (search rules) (search rules) c.in_ok-command.ensures in
    let fails = c.in-Err-2.ensures.kinds (ap is_simple_and_free is ∙ free o) in
    value_refused o c.args.words.now (app_of c.in_ok-command.command) c.in-Err-2.field-0 is c.requires.name c.requires.few c.requires.plain fails (search rules)
