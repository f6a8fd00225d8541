use Rattle.std.proofs.Common.{[], ap, codes, refl, ◌∙◌, ◌∷◌}
use Rattle.std.proofs.lemmas.Result.{IfOk-weaker}
use Rattle.clap.specs.declared.builder.command.Command.{Command as Parser}
use Rattle.clap.specs.declared.builder.command.Command.TheOpen.{Command-F}
use Rattle.clap.specs.Simple.{app_of_fields, new_app, with_rule}
use Rattle.command_words.specs.Command.{force_rule, frames_rule, pages_rule, save_rule, saved_manifest_rule, strict_rule}
use Rattle.command_words.proofs.ChainLemmas.{made_of, none_fit, one_more_fits}
use Rattle.command_words.proofs.RequiredLemmas.{app_with}
use Rattle.command_words.proofs.arguments.run_command.Goals as goal

pub returns-clause-made : goal.returns-clause-made
returns-clause-made c =
    let args = λ (f : Command-F Parser). f.args.items in
    let groups = λ (f : Command-F Parser). f.groups.items in
    let globals = λ (f : Command-F Parser). f.has_globals in
    let negates = λ (f : Command-F Parser). f.subcommand_negates_reqs in
    let named = c.in_ok-bin_name.ensures.0 in
    let shown = c.override_usage.ensures in
    IfOk-weaker c.arg-6.result _ _ (λ command added. record {
      pages = c.pages_arg.result;
      frames = c.frames_arg.result;
      save = c.save_arg.result;
      manifest = c.saved_manifest_arg.result;
      strict = c.strict_arg.result;
      force = c.save_force_arg.result;
      made = made_of c.in_ok-bin_name.field-0 command
          (c.pages_arg.result ∷ c.frames_arg.result ∷ c.save_arg.result ∷ c.saved_manifest_arg.result ∷ c.strict_arg.result ∷ c.save_force_arg.result ∷ [])
          (ap args named ∙ (ap args shown ∙ (ap args c.about.ensures ∙ c.new.ensures.empty.0)))
          (ap groups named ∙ (ap groups shown ∙ (ap groups c.about.ensures ∙ c.new.ensures.empty.1)))
          (ap globals named ∙ (ap globals shown ∙ (ap globals c.about.ensures ∙ c.new.ensures.local)))
          (ap negates named ∙ (ap negates shown ∙ (ap negates c.about.ensures ∙ c.new.ensures.negates)))
          (c.in_ok-arg.field-0, c.in_ok-arg.ensures, (c.in_ok-arg-2.field-0, c.in_ok-arg-2.ensures, (c.in_ok-arg-3.field-0, c.in_ok-arg-3.ensures, (c.in_ok-arg-4.field-0, c.in_ok-arg-4.ensures, (c.in_ok-arg-5.field-0, c.in_ok-arg-5.ensures, (command, added, refl))))))
          (one_more_fits c.pages_arg.result (c.frames_arg.result ∷ c.save_arg.result ∷ c.saved_manifest_arg.result ∷ c.strict_arg.result ∷ c.save_force_arg.result ∷ []) c.pages_arg.ensures.fits
          (one_more_fits c.frames_arg.result (c.save_arg.result ∷ c.saved_manifest_arg.result ∷ c.strict_arg.result ∷ c.save_force_arg.result ∷ []) c.frames_arg.ensures.fits
          (one_more_fits c.save_arg.result (c.saved_manifest_arg.result ∷ c.strict_arg.result ∷ c.save_force_arg.result ∷ []) c.save_arg.ensures.fits
          (one_more_fits c.saved_manifest_arg.result (c.strict_arg.result ∷ c.save_force_arg.result ∷ []) c.saved_manifest_arg.ensures.fits
          (one_more_fits c.strict_arg.result (c.save_force_arg.result ∷ []) c.strict_arg.ensures.fits
          (one_more_fits c.save_force_arg.result [] c.save_force_arg.ensures.fits
          none_fit))))));
      pages_is = c.pages_arg.ensures.rule;
      frames_is = c.frames_arg.ensures.rule;
      save_is = c.save_arg.ensures.rule;
      manifest_is = c.saved_manifest_arg.ensures.rule;
      strict_is = c.strict_arg.ensures.rule;
      force_is = c.save_force_arg.ensures.rule;
      required = c.pages_arg.ensures.value;
      pages_parsed = c.pages_arg.ensures.parser;
      frames_parsed = c.frames_arg.ensures.parser;
    }) c.arg-6.ensures

pub returns-clause-app : goal.returns-clause-app
returns-clause-app c =
    let named = c.in_ok-bin_name.ensures.0 in
    let shown = c.override_usage.ensures in
    let start = ap app_of_fields named ∙ (ap app_of_fields shown ∙ (ap app_of_fields c.about.ensures ∙ c.new.ensures.app)) in
    let app_0 = new_app (codes "run") in
    let with_1 = app_with c.in_ok-bin_name.field-0 c.in_ok-arg.field-0 c.pages_arg.result app_0 pages_rule
    c.in_ok-arg.ensures c.pages_arg.ensures.fits.1 start c.pages_arg.ensures.rule in
    let app_1 = with_rule app_0 pages_rule in
    let with_2 = app_with c.in_ok-arg.field-0 c.in_ok-arg-2.field-0 c.frames_arg.result app_1 frames_rule
    c.in_ok-arg-2.ensures c.frames_arg.ensures.fits.1 with_1 c.frames_arg.ensures.rule in
    let app_2 = with_rule app_1 frames_rule in
    let with_3 = app_with c.in_ok-arg-2.field-0 c.in_ok-arg-3.field-0 c.save_arg.result app_2 save_rule
    c.in_ok-arg-3.ensures c.save_arg.ensures.fits.1 with_2 c.save_arg.ensures.rule in
    let app_3 = with_rule app_2 save_rule in
    let with_4 = app_with c.in_ok-arg-3.field-0 c.in_ok-arg-4.field-0 c.saved_manifest_arg.result app_3 saved_manifest_rule
    c.in_ok-arg-4.ensures c.saved_manifest_arg.ensures.fits.1 with_3 c.saved_manifest_arg.ensures.rule in
    let app_4 = with_rule app_3 saved_manifest_rule in
    let with_5 = app_with c.in_ok-arg-4.field-0 c.in_ok-arg-5.field-0 c.strict_arg.result app_4 strict_rule
    c.in_ok-arg-5.ensures c.strict_arg.ensures.fits.1 with_4 c.strict_arg.ensures.rule in
    let app_5 = with_rule app_4 strict_rule in
    IfOk-weaker c.arg-6.result _ _ (λ command added. app_with c.in_ok-arg-5.field-0 command c.save_force_arg.result app_5
    force_rule added c.save_force_arg.ensures.fits.1 with_5 c.save_force_arg.ensures.rule) c.arg-6.ensures
