-- The windows in which a stream counts its events.
use Rattle.std.specs.Prelude.{ℕ, ◌+◌, ◌*◌}
use Rattle.list_laws.specs.Window.{window_number}
use Rattle.rate_streams.specs.declared.windows.Windows.{Windows}

-- the number of the window in which the moment is
abbrev pub number_at : Windows → ℕ → ℕ
number_at windows moment = window_number moment windows.start windows.secs

-- the first moment after the window with this number
abbrev pub end_at : Windows → ℕ → ℕ
end_at windows window = windows.start + (window + 1) * windows.secs
