use Rattle.pb_wire.proofs.varint.+put_varint_within.Given as goal

abbrev pub decreases-put_varint_within : goal.decreases-put_varint_within
decreases-put_varint_within l = l.more
