use Rattle.std.proofs.Common.{rules, ap, ap₂, codes, true, false, Bool, ◌≡◌, ◌∙◌, ◌||◌}
use Rattle.std.proofs.lemmas.Result.{IfOk-weaker}
use Rattle.clap.specs.Words.{App, app_of, new_app, with_rule, with_subcommand}
use Rattle.clap.specs.Simple.{app_of_fields, on_top}
use Rattle.cli_words.specs.Command.{disk_rule, flag_rule, load_shape, place_rule, run_shape}
use Rattle.cli_words.proofs.command.rac_command.Goals as goal

abbrev alone : App
alone = on_top (λ s. record s { no_binary_name = true }) (new_app (codes "rac"))

abbrev without_help : App
without_help = on_top (λ s. record s { disable_help_flag = true; disable_help_subcommand = true }) alone

abbrev set_up : App
set_up = on_top (λ s. record s { subcommand_required = true }) without_help

-- neither of two has a global one
neither : (a b n : Bool) → n ≡ (a || b) → a ≡ false → b ≡ false → n ≡ false
neither a b n is p q = is ∙ ap₂ (λ x y. x || y) p q

pub returns : goal.returns
returns c =
    let journal_is : app_of c.in_ok-arg.field-0 ≡ with_rule (new_app (codes "run")) (flag_rule (codes "journal")) =
    c.in_ok-arg.ensures.shape c.flag.ensures.local ∙ ap₂ with_rule c.new.ensures.app c.flag.ensures.rule in
    let steps_is : app_of c.in_ok-arg-2.field-0 ≡ with_rule (with_rule (new_app (codes "run")) (flag_rule (codes "journal"))) (flag_rule (codes "steps")) =
    c.in_ok-arg-2.ensures.shape c.flag-2.ensures.local ∙ ap₂ with_rule journal_is c.flag-2.ensures.rule in
    let check_is : app_of c.in_ok-arg-3.field-0 ≡ with_rule (with_rule (with_rule (new_app (codes "run")) (flag_rule (codes "journal"))) (flag_rule (codes "steps"))) (flag_rule (codes "check")) =
    c.in_ok-arg-3.ensures.shape c.flag-3.ensures.local ∙ ap₂ with_rule steps_is c.flag-3.ensures.rule in
    let run_is : app_of c.in_ok-run.run' ≡ on_top (λ s. run_shape) (new_app (codes "run")) =
    c.in_ok-run.ensures.shape c.disk.ensures.local ∙ ap₂ with_rule check_is c.disk.ensures.rule in
    let run_local =
    neither _ _ _ c.in_ok-run.ensures.globals
    (neither _ _ _ c.in_ok-arg-3.ensures.globals
    (neither _ _ _ c.in_ok-arg-2.ensures.globals (neither _ _ _ c.in_ok-arg.ensures.globals c.new.ensures.local c.flag.ensures.local) c.flag-2.ensures.local)
    c.flag-3.ensures.local)
    c.disk.ensures.local in
    let seed_is : app_of c.in_ok-arg-4.field-0 ≡ with_rule (new_app (codes "load")) (place_rule (codes "seed")) =
    c.in_ok-arg-4.ensures.shape c.place.ensures.local ∙ ap₂ with_rule c.new-2.ensures.app c.place.ensures.rule in
    let rounds_is : app_of c.in_ok-arg-5.field-0 ≡ with_rule (with_rule (new_app (codes "load")) (place_rule (codes "seed"))) (place_rule (codes "rounds")) =
    c.in_ok-arg-5.ensures.shape c.place-2.ensures.local ∙ ap₂ with_rule seed_is c.place-2.ensures.rule in
    let load_is : app_of c.in_ok-load.load ≡ on_top (λ s. load_shape) (new_app (codes "load")) =
    c.in_ok-load.ensures.shape c.disk-2.ensures.local ∙ ap₂ with_rule rounds_is c.disk-2.ensures.rule in
    let load_local =
    neither _ _ _ c.in_ok-load.ensures.globals
    (neither _ _ _ c.in_ok-arg-5.ensures.globals (neither _ _ _ c.in_ok-arg-4.ensures.globals c.new-2.ensures.local c.place.ensures.local) c.place-2.ensures.local)
    c.disk-2.ensures.local in
    let audit_is : app_of c.in_ok-audit.audit ≡ with_rule (new_app (codes "audit")) (disk_rule true) =
    c.in_ok-audit.ensures.shape c.disk-3.ensures.local ∙ ap₂ with_rule c.new-3.ensures.app c.disk-3.ensures.rule in
    let alone_is : app_of c.no_binary_name.result ≡ alone =
    ap app_of_fields c.no_binary_name.ensures ∙ ap (λ (a : App). on_top (λ s. record s { no_binary_name = true }) a) c.new-4.ensures.app in
    let flag_is : app_of c.disable_help_flag.result ≡ on_top (λ s. record s { disable_help_flag = true }) alone =
    ap app_of_fields c.disable_help_flag.ensures ∙ ap (λ (a : App). on_top (λ s. record s { disable_help_flag = true }) a) alone_is in
    let help_is : app_of c.disable_help_subcommand.result ≡ without_help =
    ap app_of_fields c.disable_help_subcommand.ensures ∙ ap (λ (a : App). on_top (λ s. record s { disable_help_subcommand = true }) a) flag_is in
    let set_up_is : app_of c.subcommand_required.result ≡ set_up =
    ap app_of_fields c.subcommand_required.ensures ∙ ap (λ (a : App). on_top (λ s. record s { subcommand_required = true }) a) help_is in
    let with_run : app_of c.in_ok-subcommand.field-0 ≡ with_subcommand set_up run_shape =
    c.in_ok-subcommand.ensures.shape run_local ∙ ap₂ with_subcommand set_up_is (ap (λ (a : App). a.top) run_is) in
    let with_load : app_of c.in_ok-subcommand-2.field-0 ≡ with_subcommand (with_subcommand set_up run_shape) load_shape =
    c.in_ok-subcommand-2.ensures.shape load_local ∙ ap₂ with_subcommand with_run (ap (λ (a : App). a.top) load_is) in
    IfOk-weaker c.subcommand-3.result _ _
    (λ m h. h.shape (search rules) ∙ ap₂ with_subcommand with_load (ap (λ (a : App). a.top) audit_is)) c.subcommand-3.ensures
