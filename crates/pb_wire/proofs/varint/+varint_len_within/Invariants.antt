use Rattle.pb_wire.proofs.varint.+varint_len_within.Given as goal

abbrev pub decreases-varint_len_within : goal.decreases-varint_len_within
decreases-varint_len_within l = l.more
