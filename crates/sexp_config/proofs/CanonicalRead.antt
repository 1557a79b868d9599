-- What is written of a configuration that was read is read again.
use Rattle.std.proofs.Common.{sym, subst}
use Rattle.sexp_read.proofs.ReadableAtoms.{read_writable}
use Rattle.sexp_read.proofs.WrittenTrees.{read_back}
use Rattle.sexp_read.specs.Written.{BareTrees, bare_trees, listed}
use Rattle.sexp_config.specs.Canonical.{canonical_text, config_forms}
use Rattle.sexp_config.specs.Grammar.{AreConfig}
use Rattle.sexp_config.specs.ReadBack.{CanonicalIsRead}
use Rattle.sexp_config.proofs.CanonicalTops.{config_written}

pub canonical_read : CanonicalIsRead
unfolding canonical_text
canonical_read config (text, is) limits =
    let written = config_written (bare_trees is.forms) config is.holds (read_writable text is.forms is.read).0 in
    let back = read_back (listed (config_forms config)) written.1 limits.shallow limits.short in
    record {
      forms = back.forms;
      read = back.read;
      holds = subst (λ (row : BareTrees). AreConfig row config) (sym back.same) written.0;
    }
