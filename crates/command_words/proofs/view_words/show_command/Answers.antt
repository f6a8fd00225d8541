use Rattle.std.proofs.Common.{[], ap, codes, refl, ◌∙◌, ◌∷◌}
use Rattle.std.proofs.lemmas.Result.{IfOk-weaker}
use Rattle.clap.specs.declared.builder.command.Command.{Command as Parser}
use Rattle.clap.specs.declared.builder.command.Command.TheOpen.{Command-F}
use Rattle.clap.specs.Simple.{app_of_fields, new_app, with_rule}
use Rattle.command_words.specs.Command.{commits_rule, file_rule, from_rule, json_rule, page_rule, to_rule, txn_rule}
use Rattle.command_words.proofs.ChainLemmas.{made_of, none_fit, one_more_fits}
use Rattle.command_words.proofs.RequiredLemmas.{app_with}
use Rattle.command_words.proofs.view_words.show_command.Goals as goal

pub returns-clause-made : goal.returns-clause-made
returns-clause-made c =
    let args = λ (f : Command-F Parser). f.args.items in
    let groups = λ (f : Command-F Parser). f.groups.items in
    let globals = λ (f : Command-F Parser). f.has_globals in
    let negates = λ (f : Command-F Parser). f.subcommand_negates_reqs in
    let named = c.in_ok-bin_name.ensures.0 in
    let shown = c.override_usage.ensures in
    IfOk-weaker c.arg-7.result _ _ (λ command added. record {
      file = c.file_arg.result;
      from = c.from_arg.result;
      to = c.to_arg.result;
      txn = c.txn_arg.result;
      page = c.page_arg.result;
      json = c.json_arg.result;
      commits = c.commits_arg.result;
      made = made_of c.in_ok-bin_name.field-0 command
          (c.file_arg.result ∷ c.from_arg.result ∷ c.to_arg.result ∷ c.txn_arg.result ∷ c.page_arg.result ∷ c.json_arg.result ∷ c.commits_arg.result ∷ [])
          (ap args named ∙ (ap args shown ∙ (ap args c.about.ensures ∙ c.new.ensures.empty.0)))
          (ap groups named ∙ (ap groups shown ∙ (ap groups c.about.ensures ∙ c.new.ensures.empty.1)))
          (ap globals named ∙ (ap globals shown ∙ (ap globals c.about.ensures ∙ c.new.ensures.local)))
          (ap negates named ∙ (ap negates shown ∙ (ap negates c.about.ensures ∙ c.new.ensures.negates)))
          (c.in_ok-arg.field-0, c.in_ok-arg.ensures, (c.in_ok-arg-2.field-0, c.in_ok-arg-2.ensures, (c.in_ok-arg-3.field-0, c.in_ok-arg-3.ensures, (c.in_ok-arg-4.field-0, c.in_ok-arg-4.ensures, (c.in_ok-arg-5.field-0, c.in_ok-arg-5.ensures, (c.in_ok-arg-6.field-0, c.in_ok-arg-6.ensures, (command, added, refl)))))))
          (one_more_fits c.file_arg.result (c.from_arg.result ∷ c.to_arg.result ∷ c.txn_arg.result ∷ c.page_arg.result ∷ c.json_arg.result ∷ c.commits_arg.result ∷ []) c.file_arg.ensures.fits
          (one_more_fits c.from_arg.result (c.to_arg.result ∷ c.txn_arg.result ∷ c.page_arg.result ∷ c.json_arg.result ∷ c.commits_arg.result ∷ []) c.from_arg.ensures.fits
          (one_more_fits c.to_arg.result (c.txn_arg.result ∷ c.page_arg.result ∷ c.json_arg.result ∷ c.commits_arg.result ∷ []) c.to_arg.ensures.fits
          (one_more_fits c.txn_arg.result (c.page_arg.result ∷ c.json_arg.result ∷ c.commits_arg.result ∷ []) c.txn_arg.ensures.fits
          (one_more_fits c.page_arg.result (c.json_arg.result ∷ c.commits_arg.result ∷ []) c.page_arg.ensures.fits
          (one_more_fits c.json_arg.result (c.commits_arg.result ∷ []) c.json_arg.ensures.fits
          (one_more_fits c.commits_arg.result [] c.commits_arg.ensures.fits
          none_fit)))))));
      file_is = c.file_arg.ensures.rule;
      from_is = c.from_arg.ensures.rule;
      to_is = c.to_arg.ensures.rule;
      txn_is = c.txn_arg.ensures.rule;
      page_is = c.page_arg.ensures.rule;
      json_is = c.json_arg.ensures.rule;
      commits_is = c.commits_arg.ensures.rule;
      required = c.file_arg.ensures.value;
      from_parsed = c.from_arg.ensures.parser;
      to_parsed = c.to_arg.ensures.parser;
      txn_parsed = c.txn_arg.ensures.parser;
      page_parsed = c.page_arg.ensures.parser;
    }) c.arg-7.ensures

pub returns-clause-app : goal.returns-clause-app
returns-clause-app c =
    let named = c.in_ok-bin_name.ensures.0 in
    let shown = c.override_usage.ensures in
    let start = ap app_of_fields named ∙ (ap app_of_fields shown ∙ (ap app_of_fields c.about.ensures ∙ c.new.ensures.app)) in
    let app_0 = new_app (codes "show") in
    let with_1 = app_with c.in_ok-bin_name.field-0 c.in_ok-arg.field-0 c.file_arg.result app_0 file_rule
    c.in_ok-arg.ensures c.file_arg.ensures.fits.1 start c.file_arg.ensures.rule in
    let app_1 = with_rule app_0 file_rule in
    let with_2 = app_with c.in_ok-arg.field-0 c.in_ok-arg-2.field-0 c.from_arg.result app_1 from_rule
    c.in_ok-arg-2.ensures c.from_arg.ensures.fits.1 with_1 c.from_arg.ensures.rule in
    let app_2 = with_rule app_1 from_rule in
    let with_3 = app_with c.in_ok-arg-2.field-0 c.in_ok-arg-3.field-0 c.to_arg.result app_2 to_rule
    c.in_ok-arg-3.ensures c.to_arg.ensures.fits.1 with_2 c.to_arg.ensures.rule in
    let app_3 = with_rule app_2 to_rule in
    let with_4 = app_with c.in_ok-arg-3.field-0 c.in_ok-arg-4.field-0 c.txn_arg.result app_3 txn_rule
    c.in_ok-arg-4.ensures c.txn_arg.ensures.fits.1 with_3 c.txn_arg.ensures.rule in
    let app_4 = with_rule app_3 txn_rule in
    let with_5 = app_with c.in_ok-arg-4.field-0 c.in_ok-arg-5.field-0 c.page_arg.result app_4 page_rule
    c.in_ok-arg-5.ensures c.page_arg.ensures.fits.1 with_4 c.page_arg.ensures.rule in
    let app_5 = with_rule app_4 page_rule in
    let with_6 = app_with c.in_ok-arg-5.field-0 c.in_ok-arg-6.field-0 c.json_arg.result app_5 json_rule
    c.in_ok-arg-6.ensures c.json_arg.ensures.fits.1 with_5 c.json_arg.ensures.rule in
    let app_6 = with_rule app_5 json_rule in
    IfOk-weaker c.arg-7.result _ _ (λ command added. app_with c.in_ok-arg-6.field-0 command c.commits_arg.result app_6
    commits_rule added c.commits_arg.ensures.fits.1 with_6 c.commits_arg.ensures.rule) c.arg-7.ensures
