-- What is read of a configuration so far, as the code holds it.
use Rattle.std.specs.Option.{option_map}
use Rattle.sexp_config.specs.declared.server.Server as code_server
use Rattle.sexp_config.specs.declared.server.Listens as code_listens
use Rattle.sexp_config.specs.declared.draft.Draft as code_draft
use Rattle.sexp_config.specs.Grammar.{Server}
use Rattle.sexp_config.specs.Tops.{Listens, Draft}
use Rattle.config_streams.specs.Made.{below_in}

abbrev pub server_made : code_server.Server → Server
server_made server = record { host = server.host; port = server.port }

abbrev pub listens_made : code_listens.Listens → Listens
listens_made listens = record { host = listens.host; port = listens.port }

abbrev pub draft_in : code_draft.Draft → Draft
draft_in draft =
    record { server = option_map server_made draft.server; expiry = draft.expiry; below = below_in draft.below }
