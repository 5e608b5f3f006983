-- Document 001, 5.2.3 "Frame length", as document 02 cites it: how long a frame takes on the bus.
use Rattle.std.specs.Prelude.{ℕ, ◌+◌, ◌*◌}

-- "a frame of N data bytes takes at least 34 + 10(N + 1) bit times": 34 for the header, and ten for each data byte and for the checksum
unfoldable pub minimum_bits : ℕ → ℕ
minimum_bits n = 34 + 10 * (n + 1)

-- "and at most 1.4 times that", in tenths of a bit time
unfoldable pub maximum_tenths : ℕ → ℕ
maximum_tenths n = 14 * minimum_bits n
