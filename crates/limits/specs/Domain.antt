-- The domain of seconds: years 0001 to 9999.
use Rattle.std.specs.Prelude.{Bool, ◌||◌, ℤ, pos, negsuc}
use Rattle.std.specs.Int.Signed.{lt_z}

-- -62,135,596,800 (negsuc n is -1 - n)
abbrev pub first_second : ℤ
first_second = negsuc 62135596799

-- 253,402,300,799
abbrev pub last_second : ℤ
last_second = pos 253402300799

-- the second is out of domain
abbrev pub outside : ℤ → Bool
outside s = lt_z s first_second || lt_z last_second s
