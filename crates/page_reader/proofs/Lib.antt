mod AnyReaders
