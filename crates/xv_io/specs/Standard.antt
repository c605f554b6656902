-- What is under a source and a sink over the standard library's streams.
use Rattle.xv_io.specs.declared.standard.StdSource.{StdSource}
use Rattle.xv_io.specs.declared.standard.StdSink.{StdSink}

-- the reader under a source
abbrev pub reader_of : {R : Type 0} → StdSource R → R
reader_of s = s.inner

-- the writer under a sink
abbrev pub writer_of : {W : Type 0} → StdSink W → W
writer_of s = s.inner
