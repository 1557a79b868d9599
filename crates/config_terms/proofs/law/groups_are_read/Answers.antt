use Rattle.config_terms.proofs.VectorLaws.{ranges_are_read, text_vectors_are_read, field_vectors_are_read}
use Rattle.config_terms.proofs.SetLaws.{sets_are_read, set_maps_are_read, inits_are_read}
use Rattle.config_terms.proofs.IdleLaws.{idles_are_read}
use Rattle.config_terms.proofs.law.groups_are_read.Goals as goal

pub returns : goal.returns
returns c = record {
  ranges = ranges_are_read;
  texts = text_vectors_are_read;
  fields = field_vectors_are_read;
  sets = sets_are_read;
  maps = set_maps_are_read;
  inits = inits_are_read;
  idles = idles_are_read;
}
