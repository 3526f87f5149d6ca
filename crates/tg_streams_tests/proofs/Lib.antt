mod ToldBytes
