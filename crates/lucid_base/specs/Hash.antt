-- FNV-1a of 64 bits over the bytes of words.
use Rattle.std.specs.Prelude.{ℕ, ◌*◌, ◌%◌, ◌^◌, List, bit_xor}
use Rattle.std.specs.List.{fold, flat_map}
use Rattle.std.specs.Int.{w64, to_le_bytes}

-- the hash of no bytes
abbrev pub offset_basis : ℕ
offset_basis = 14_695_981_039_346_656_037

-- the factor for each byte
abbrev pub prime : ℕ
prime = 1_099_511_628_211

-- the hash once one more byte is read: exclusive or with the byte, then times the prime modulo 2 ^ 64
abbrev pub with_byte : ℕ → ℕ → ℕ
with_byte hash byte = bit_xor hash byte * prime % 2 ^ 64

-- the hash of a list of bytes, from the first to the last
abbrev pub fnv_1a : List ℕ → ℕ
fnv_1a bytes = fold with_byte offset_basis bytes

-- the eight bytes of each word, the lowest byte of a word first
abbrev pub bytes_of : List ℕ → List ℕ
bytes_of words = flat_map (to_le_bytes w64) words

-- the low w bits of the hash of words, the seed first
abbrev pub hash_of : ℕ → List ℕ → ℕ
hash_of w words = fnv_1a (bytes_of words) % 2 ^ w
