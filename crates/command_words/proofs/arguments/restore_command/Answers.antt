use Rattle.std.proofs.Common.{[], ap, codes, refl, ◌∙◌, ◌∷◌}
use Rattle.std.proofs.lemmas.Result.{IfOk-weaker}
use Rattle.clap.specs.declared.builder.command.Command.{Command as Parser}
use Rattle.clap.specs.declared.builder.command.Command.TheOpen.{Command-F}
use Rattle.clap.specs.Simple.{app_of_fields, new_app, with_rule}
use Rattle.command_words.specs.Command.{archive_rule, force_rule, log_output_rule, log_rule, manifest_rule}
use Rattle.command_words.specs.Command.{master_rule, no_manifest_rule, output_rule, until_rule}
use Rattle.command_words.proofs.ChainLemmas.{made_of, none_fit, one_more_fits}
use Rattle.command_words.proofs.RequiredLemmas.{app_with}
use Rattle.command_words.proofs.arguments.restore_command.Goals as goal

pub returns-clause-made : goal.returns-clause-made
returns-clause-made c =
    let args = λ (f : Command-F Parser). f.args.items in
    let groups = λ (f : Command-F Parser). f.groups.items in
    let globals = λ (f : Command-F Parser). f.has_globals in
    let negates = λ (f : Command-F Parser). f.subcommand_negates_reqs in
    let named = c.in_ok-bin_name.ensures.0 in
    let shown = c.override_usage.ensures in
    IfOk-weaker c.arg-9.result _ _ (λ command added. record {
      log = c.log_arg.result;
      master = c.master_arg.result;
      archive = c.archive_arg.result;
      output = c.output_arg.result;
      log_output = c.log_output_arg.result;
      force = c.force_arg.result;
      until = c.until_arg.result;
      manifest = c.manifest_arg.result;
      no_manifest = c.no_manifest_arg.result;
      made = made_of c.in_ok-bin_name.field-0 command
          (c.log_arg.result ∷ c.master_arg.result ∷ c.archive_arg.result ∷ c.output_arg.result ∷ c.log_output_arg.result ∷ c.force_arg.result ∷ c.until_arg.result ∷ c.manifest_arg.result ∷ c.no_manifest_arg.result ∷ [])
          (ap args named ∙ (ap args shown ∙ (ap args c.about.ensures ∙ c.new.ensures.empty.0)))
          (ap groups named ∙ (ap groups shown ∙ (ap groups c.about.ensures ∙ c.new.ensures.empty.1)))
          (ap globals named ∙ (ap globals shown ∙ (ap globals c.about.ensures ∙ c.new.ensures.local)))
          (ap negates named ∙ (ap negates shown ∙ (ap negates c.about.ensures ∙ c.new.ensures.negates)))
          (c.in_ok-arg.field-0, c.in_ok-arg.ensures, (c.in_ok-arg-2.field-0, c.in_ok-arg-2.ensures, (c.in_ok-arg-3.field-0, c.in_ok-arg-3.ensures, (c.in_ok-arg-4.field-0, c.in_ok-arg-4.ensures, (c.in_ok-arg-5.field-0, c.in_ok-arg-5.ensures, (c.in_ok-arg-6.field-0, c.in_ok-arg-6.ensures, (c.in_ok-arg-7.field-0, c.in_ok-arg-7.ensures, (c.in_ok-arg-8.field-0, c.in_ok-arg-8.ensures, (command, added, refl)))))))))
          (one_more_fits c.log_arg.result (c.master_arg.result ∷ c.archive_arg.result ∷ c.output_arg.result ∷ c.log_output_arg.result ∷ c.force_arg.result ∷ c.until_arg.result ∷ c.manifest_arg.result ∷ c.no_manifest_arg.result ∷ []) c.log_arg.ensures.fits
          (one_more_fits c.master_arg.result (c.archive_arg.result ∷ c.output_arg.result ∷ c.log_output_arg.result ∷ c.force_arg.result ∷ c.until_arg.result ∷ c.manifest_arg.result ∷ c.no_manifest_arg.result ∷ []) c.master_arg.ensures.fits
          (one_more_fits c.archive_arg.result (c.output_arg.result ∷ c.log_output_arg.result ∷ c.force_arg.result ∷ c.until_arg.result ∷ c.manifest_arg.result ∷ c.no_manifest_arg.result ∷ []) c.archive_arg.ensures.fits
          (one_more_fits c.output_arg.result (c.log_output_arg.result ∷ c.force_arg.result ∷ c.until_arg.result ∷ c.manifest_arg.result ∷ c.no_manifest_arg.result ∷ []) c.output_arg.ensures.fits
          (one_more_fits c.log_output_arg.result (c.force_arg.result ∷ c.until_arg.result ∷ c.manifest_arg.result ∷ c.no_manifest_arg.result ∷ []) c.log_output_arg.ensures.fits
          (one_more_fits c.force_arg.result (c.until_arg.result ∷ c.manifest_arg.result ∷ c.no_manifest_arg.result ∷ []) c.force_arg.ensures.fits
          (one_more_fits c.until_arg.result (c.manifest_arg.result ∷ c.no_manifest_arg.result ∷ []) c.until_arg.ensures.fits
          (one_more_fits c.manifest_arg.result (c.no_manifest_arg.result ∷ []) c.manifest_arg.ensures.fits
          (one_more_fits c.no_manifest_arg.result [] c.no_manifest_arg.ensures.fits
          none_fit)))))))));
      log_is = c.log_arg.ensures.rule;
      master_is = c.master_arg.ensures.rule;
      archive_is = c.archive_arg.ensures.rule;
      output_is = c.output_arg.ensures.rule;
      log_output_is = c.log_output_arg.ensures.rule;
      force_is = c.force_arg.ensures.rule;
      until_is = c.until_arg.ensures.rule;
      manifest_is = c.manifest_arg.ensures.rule;
      no_manifest_is = c.no_manifest_arg.ensures.rule;
      log_required = c.log_arg.ensures.value;
      master_required = c.master_arg.ensures.value;
      until_parsed = c.until_arg.ensures.parser;
    }) c.arg-9.ensures

pub returns-clause-app : goal.returns-clause-app
returns-clause-app c =
    let named = c.in_ok-bin_name.ensures.0 in
    let shown = c.override_usage.ensures in
    let start = ap app_of_fields named ∙ (ap app_of_fields shown ∙ (ap app_of_fields c.about.ensures ∙ c.new.ensures.app)) in
    let app_0 = new_app (codes "restore") in
    let with_1 = app_with c.in_ok-bin_name.field-0 c.in_ok-arg.field-0 c.log_arg.result app_0 log_rule
    c.in_ok-arg.ensures c.log_arg.ensures.fits.1 start c.log_arg.ensures.rule in
    let app_1 = with_rule app_0 log_rule in
    let with_2 = app_with c.in_ok-arg.field-0 c.in_ok-arg-2.field-0 c.master_arg.result app_1 master_rule
    c.in_ok-arg-2.ensures c.master_arg.ensures.fits.1 with_1 c.master_arg.ensures.rule in
    let app_2 = with_rule app_1 master_rule in
    let with_3 = app_with c.in_ok-arg-2.field-0 c.in_ok-arg-3.field-0 c.archive_arg.result app_2 archive_rule
    c.in_ok-arg-3.ensures c.archive_arg.ensures.fits.1 with_2 c.archive_arg.ensures.rule in
    let app_3 = with_rule app_2 archive_rule in
    let with_4 = app_with c.in_ok-arg-3.field-0 c.in_ok-arg-4.field-0 c.output_arg.result app_3 output_rule
    c.in_ok-arg-4.ensures c.output_arg.ensures.fits.1 with_3 c.output_arg.ensures.rule in
    let app_4 = with_rule app_3 output_rule in
    let with_5 = app_with c.in_ok-arg-4.field-0 c.in_ok-arg-5.field-0 c.log_output_arg.result app_4 log_output_rule
    c.in_ok-arg-5.ensures c.log_output_arg.ensures.fits.1 with_4 c.log_output_arg.ensures.rule in
    let app_5 = with_rule app_4 log_output_rule in
    let with_6 = app_with c.in_ok-arg-5.field-0 c.in_ok-arg-6.field-0 c.force_arg.result app_5 force_rule
    c.in_ok-arg-6.ensures c.force_arg.ensures.fits.1 with_5 c.force_arg.ensures.rule in
    let app_6 = with_rule app_5 force_rule in
    let with_7 = app_with c.in_ok-arg-6.field-0 c.in_ok-arg-7.field-0 c.until_arg.result app_6 until_rule
    c.in_ok-arg-7.ensures c.until_arg.ensures.fits.1 with_6 c.until_arg.ensures.rule in
    let app_7 = with_rule app_6 until_rule in
    let with_8 = app_with c.in_ok-arg-7.field-0 c.in_ok-arg-8.field-0 c.manifest_arg.result app_7 manifest_rule
    c.in_ok-arg-8.ensures c.manifest_arg.ensures.fits.1 with_7 c.manifest_arg.ensures.rule in
    let app_8 = with_rule app_7 manifest_rule in
    IfOk-weaker c.arg-9.result _ _ (λ command added. app_with c.in_ok-arg-8.field-0 command c.no_manifest_arg.result app_8
    no_manifest_rule added c.no_manifest_arg.ensures.fits.1 with_8 c.no_manifest_arg.ensures.rule) c.arg-9.ensures
