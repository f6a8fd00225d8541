use Rattle.std.proofs.Common.{[], ap, codes, refl, ◌∙◌, ◌∷◌}
use Rattle.std.proofs.lemmas.Result.{IfOk-weaker}
use Rattle.clap.specs.declared.builder.command.Command.{Command as Parser}
use Rattle.clap.specs.declared.builder.command.Command.TheOpen.{Command-F}
use Rattle.clap.specs.Simple.{app_of_fields, new_app, with_rule}
use Rattle.command_words.specs.Command.{copy_rule, folder_rule, force_rule, log_output_rule, manifest_rule}
use Rattle.command_words.specs.Command.{no_manifest_rule, output_rule, until_rule}
use Rattle.command_words.proofs.ChainLemmas.{made_of, none_fit, one_more_fits}
use Rattle.command_words.proofs.RequiredLemmas.{app_with}
use Rattle.command_words.proofs.restore_words.restore_folder_command.Goals as goal

pub returns-clause-made : goal.returns-clause-made
returns-clause-made c =
    let args = λ (f : Command-F Parser). f.args.items in
    let groups = λ (f : Command-F Parser). f.groups.items in
    let globals = λ (f : Command-F Parser). f.has_globals in
    let negates = λ (f : Command-F Parser). f.subcommand_negates_reqs in
    let named = c.in_ok-bin_name.ensures.0 in
    let shown = c.override_usage.ensures in
    IfOk-weaker c.arg-8.result _ _ (λ command added. record {
      folder = c.folder_arg.result;
      copy = c.copy_arg.result;
      output = c.output_arg.result;
      log_output = c.log_output_arg.result;
      force = c.force_arg.result;
      until = c.until_arg.result;
      manifest = c.manifest_arg.result;
      no_manifest = c.no_manifest_arg.result;
      made = made_of c.in_ok-bin_name.field-0 command
          (c.folder_arg.result ∷ c.copy_arg.result ∷ c.output_arg.result ∷ c.log_output_arg.result ∷ c.force_arg.result ∷ c.until_arg.result ∷ c.manifest_arg.result ∷ c.no_manifest_arg.result ∷ [])
          (ap args named ∙ (ap args shown ∙ (ap args c.about.ensures ∙ c.new.ensures.empty.0)))
          (ap groups named ∙ (ap groups shown ∙ (ap groups c.about.ensures ∙ c.new.ensures.empty.1)))
          (ap globals named ∙ (ap globals shown ∙ (ap globals c.about.ensures ∙ c.new.ensures.local)))
          (ap negates named ∙ (ap negates shown ∙ (ap negates c.about.ensures ∙ c.new.ensures.negates)))
          (c.in_ok-arg.field-0, c.in_ok-arg.ensures, (c.in_ok-arg-2.field-0, c.in_ok-arg-2.ensures, (c.in_ok-arg-3.field-0, c.in_ok-arg-3.ensures, (c.in_ok-arg-4.field-0, c.in_ok-arg-4.ensures, (c.in_ok-arg-5.field-0, c.in_ok-arg-5.ensures, (c.in_ok-arg-6.field-0, c.in_ok-arg-6.ensures, (c.in_ok-arg-7.field-0, c.in_ok-arg-7.ensures, (command, added, refl))))))))
          (one_more_fits c.folder_arg.result (c.copy_arg.result ∷ c.output_arg.result ∷ c.log_output_arg.result ∷ c.force_arg.result ∷ c.until_arg.result ∷ c.manifest_arg.result ∷ c.no_manifest_arg.result ∷ []) c.folder_arg.ensures.fits
          (one_more_fits c.copy_arg.result (c.output_arg.result ∷ c.log_output_arg.result ∷ c.force_arg.result ∷ c.until_arg.result ∷ c.manifest_arg.result ∷ c.no_manifest_arg.result ∷ []) c.copy_arg.ensures.fits
          (one_more_fits c.output_arg.result (c.log_output_arg.result ∷ c.force_arg.result ∷ c.until_arg.result ∷ c.manifest_arg.result ∷ c.no_manifest_arg.result ∷ []) c.output_arg.ensures.fits
          (one_more_fits c.log_output_arg.result (c.force_arg.result ∷ c.until_arg.result ∷ c.manifest_arg.result ∷ c.no_manifest_arg.result ∷ []) c.log_output_arg.ensures.fits
          (one_more_fits c.force_arg.result (c.until_arg.result ∷ c.manifest_arg.result ∷ c.no_manifest_arg.result ∷ []) c.force_arg.ensures.fits
          (one_more_fits c.until_arg.result (c.manifest_arg.result ∷ c.no_manifest_arg.result ∷ []) c.until_arg.ensures.fits
          (one_more_fits c.manifest_arg.result (c.no_manifest_arg.result ∷ []) c.manifest_arg.ensures.fits
          (one_more_fits c.no_manifest_arg.result [] c.no_manifest_arg.ensures.fits
          none_fit))))))));
      folder_is = c.folder_arg.ensures.rule;
      copy_is = c.copy_arg.ensures.rule;
      output_is = c.output_arg.ensures.rule;
      log_output_is = c.log_output_arg.ensures.rule;
      force_is = c.force_arg.ensures.rule;
      until_is = c.until_arg.ensures.rule;
      manifest_is = c.manifest_arg.ensures.rule;
      no_manifest_is = c.no_manifest_arg.ensures.rule;
      required = c.folder_arg.ensures.value;
      copy_parsed = c.copy_arg.ensures.parser;
      until_parsed = c.until_arg.ensures.parser;
    }) c.arg-8.ensures

pub returns-clause-app : goal.returns-clause-app
returns-clause-app c =
    let named = c.in_ok-bin_name.ensures.0 in
    let shown = c.override_usage.ensures in
    let start = ap app_of_fields named ∙ (ap app_of_fields shown ∙ (ap app_of_fields c.about.ensures ∙ c.new.ensures.app)) in
    let app_0 = new_app (codes "restore") in
    let with_1 = app_with c.in_ok-bin_name.field-0 c.in_ok-arg.field-0 c.folder_arg.result app_0 folder_rule
    c.in_ok-arg.ensures c.folder_arg.ensures.fits.1 start c.folder_arg.ensures.rule in
    let app_1 = with_rule app_0 folder_rule in
    let with_2 = app_with c.in_ok-arg.field-0 c.in_ok-arg-2.field-0 c.copy_arg.result app_1 copy_rule
    c.in_ok-arg-2.ensures c.copy_arg.ensures.fits.1 with_1 c.copy_arg.ensures.rule in
    let app_2 = with_rule app_1 copy_rule in
    let with_3 = app_with c.in_ok-arg-2.field-0 c.in_ok-arg-3.field-0 c.output_arg.result app_2 output_rule
    c.in_ok-arg-3.ensures c.output_arg.ensures.fits.1 with_2 c.output_arg.ensures.rule in
    let app_3 = with_rule app_2 output_rule in
    let with_4 = app_with c.in_ok-arg-3.field-0 c.in_ok-arg-4.field-0 c.log_output_arg.result app_3 log_output_rule
    c.in_ok-arg-4.ensures c.log_output_arg.ensures.fits.1 with_3 c.log_output_arg.ensures.rule in
    let app_4 = with_rule app_3 log_output_rule in
    let with_5 = app_with c.in_ok-arg-4.field-0 c.in_ok-arg-5.field-0 c.force_arg.result app_4 force_rule
    c.in_ok-arg-5.ensures c.force_arg.ensures.fits.1 with_4 c.force_arg.ensures.rule in
    let app_5 = with_rule app_4 force_rule in
    let with_6 = app_with c.in_ok-arg-5.field-0 c.in_ok-arg-6.field-0 c.until_arg.result app_5 until_rule
    c.in_ok-arg-6.ensures c.until_arg.ensures.fits.1 with_5 c.until_arg.ensures.rule in
    let app_6 = with_rule app_5 until_rule in
    let with_7 = app_with c.in_ok-arg-6.field-0 c.in_ok-arg-7.field-0 c.manifest_arg.result app_6 manifest_rule
    c.in_ok-arg-7.ensures c.manifest_arg.ensures.fits.1 with_6 c.manifest_arg.ensures.rule in
    let app_7 = with_rule app_6 manifest_rule in
    IfOk-weaker c.arg-8.result _ _ (λ command added. app_with c.in_ok-arg-7.field-0 command c.no_manifest_arg.result app_7
    no_manifest_rule added c.no_manifest_arg.ensures.fits.1 with_7 c.no_manifest_arg.ensures.rule) c.arg-8.ensures
