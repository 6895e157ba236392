-- The command line of the program, as clap describes a command.
use Rattle.std.specs.Prelude.{[], ◌∷◌, Bool, true, false, Some, codes}
use Rattle.clap.specs.Words.{App, Rule, Shape, Text, new_rule}
use Rattle.clap.specs.Simple.{new_shape}
use Rattle.clap.specs.declared.builder.action.ArgAction.TheVariants.{SetTrue}

-- the flag of a name, as `--journal`
abbrev pub flag_rule : Text → Rule
flag_rule name = record (new_rule name) { long = Some name; action = Some SetTrue }

-- the option `--disk FOLDER`, which may have to be there
abbrev pub disk_rule : Bool → Rule
disk_rule is_required =
    record (new_rule (codes "disk")) { long = Some (codes "disk"); required = is_required }

-- an argument that stands in its place, and has to be there
abbrev pub place_rule : Text → Rule
place_rule name = record (new_rule name) { required = true }

-- `run [--journal] [--steps] [--check] [--disk FOLDER]`
abbrev pub run_shape : Shape
run_shape = record (new_shape (codes "run")) {
  rules = flag_rule (codes "journal") ∷ flag_rule (codes "steps") ∷ flag_rule (codes "check") ∷ disk_rule false ∷ [];
}

-- `load SEED ROUNDS [--disk FOLDER]`
abbrev pub load_shape : Shape
load_shape = record (new_shape (codes "load")) {
  rules = place_rule (codes "seed") ∷ place_rule (codes "rounds") ∷ disk_rule false ∷ [];
}

-- `audit --disk FOLDER`
abbrev pub audit_shape : Shape
audit_shape = record (new_shape (codes "audit")) { rules = disk_rule true ∷ [] }

-- One of the three has to be there. The program's name is none of the words, and there is no help.
abbrev pub rac_app : App
rac_app = record {
  top = record (new_shape (codes "rac")) {
    is_leaf = false;
    no_binary_name = true;
    disable_help_flag = true;
    disable_help_subcommand = true;
    subcommand_required = true;
  };
  subs = run_shape ∷ load_shape ∷ audit_shape ∷ [];
}
